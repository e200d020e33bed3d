-- `passes::run_passes` meets its contract: what is left to run from each turn is the whole, and what the last pass left is what the next would make. Assumes nothing.
use Prim.Native.Nat.{ℕ, ◌<◌, ◌-◌}
use mathlib.Core.Path.{◌≡◌, refl, sym, ap, ◌∙◌, subst}
use mathlib.Core.Bool.{Bool, true, ◌&&◌, false≢true, and-eq-true_iff as both}
use mathlib.Core.List.{List}
use borrow.Author.Rules.{rules}
use lib.ListN.{length}
use lib.Ieee.{Float}
use native.Mathlib.Omega.{arith}
use Rattle.steps.specs.declared.Counters.{Counters}
use Rattle.steps.specs.declared.Job.{Job}
use Rattle.steps.specs.Counters.{going}
use Rattle.machine.specs.State.{State}
use Rattle.machine.specs.Machine.{pass, run_for}
use Rattle.machine.specs.Laws.Budget.{run_stopped, run_step}
use Rattle.passes.specs.Laws.Lent.{after}
use Rattle.passes.specs.Attempt.{circuit_of, attempt_of}
use Rattle.passes.specs.Again.{alike, Holder, Holds, Usable}
use Rattle.passes.proofs.Again.{later, next_pass}
use Rattle.passes.proofs.Joins.{takes_over, pass_joins}
use Rattle.passes.proofs.run_passes.Invariants.{Ready}
use Rattle.passes.proofs.run_passes.Goals as goal

-- a pass takes one from the budget
taken : (j : Job) (n n₀ : ℕ) (sheet points : List ℕ) (t s r : State) (left : ℕ) → n ≡ n₀ → t ≡ pass (attempt_of (circuit_of j n sheet points)) j s → 0 < left
    → run_for (attempt_of (circuit_of j n₀ sheet points)) j left s ≡ r → run_for (attempt_of (circuit_of j n₀ sheet points)) j (left - 1) t ≡ r
taken j n n₀ sheet points t s r left e p h q =
    let f = attempt_of (circuit_of j n₀ sheet points) in
    ap (run_for f j (left - 1)) (subst (λ (n : ℕ). t ≡ pass (attempt_of (circuit_of j n sheet points)) j s) e p) ∙ (sym (run_step f j left s h) ∙ q)

-- the order is written as the vector's length
resize : (j : Job) (n n₀ : ℕ) (sheet points : List ℕ) (c : Counters) (a b held s v y : List Float) → n ≡ n₀ → Holds (circuit_of j n sheet points) c a b held s v y → Holds (circuit_of j n₀ sheet points) c a b held s v y
resize j n n₀ sheet points c a b held s v y e h = rw (← e) h

-- what is ready at a live pass is usable there
usable : (j : Job) (n n₀ h₀ : ℕ) (sheet places points : List ℕ) (known a g : Bool) (c : Counters) (acc base held s v y : List Float) → n ≡ n₀ → length held ≡ h₀ → Holder sheet places (length base) h₀
    → Ready (circuit_of j n₀ sheet points) known c acc base held s v y → a ≡ alike c → g ≡ going c → g ≡ true → Usable (circuit_of j n sheet points) places (known && a) c acc base held s v y
usable j n n₀ h₀ sheet places points known a g c acc base held s v y e lh holder ready ea eg live =
    rw e
    record {
      holder = rw lh holder;
      later = λ q. later c (sym ea ∙ ((both known a).0 q).1);
      holds = λ q. ready ((both known a).0 q).0 (sym eg ∙ live) (sym ea ∙ ((both known a).0 q).1);
    }

pub loop-left-init : goal.loop-left-init
loop-left-init c = record { la = refl; lh = refl; lr = refl; kept = search rules; base = refl; ready = λ k g a. absurd (false≢true k); same = refl }

pub shape_of-accepted-then-not-going : goal.shape_of-accepted-then-not-going
shape_of-accepted-then-not-going c = c.loop-left.invariant.la

pub shape_of-held-then-not-going : goal.shape_of-held-then-not-going
shape_of-held-then-not-going c = c.loop-left.invariant.lh

pub shape_of-rows-then-not-going : goal.shape_of-rows-then-not-going
shape_of-rows-then-not-going c = c.loop-left.invariant.lr

pub returns-then-not-going : goal.returns-then-not-going
returns-then-not-going c =
    let i = c.loop-left.invariant in
    record { runs = sym (run_stopped _ _ _ _ (sym c.going.ensures ∙ c.if-not-going.true)) ∙ i.same; kept = i.kept }

pub attempt-r-requires : goal.attempt-r-requires
attempt-r-requires c =
    let i = c.loop-left.invariant in
    let z = c.requires in
    let p = i.kept in
    record {
      sized = rw (p.vector_length, i.la, p.base_length, p.elimination_length, p.system_length) z.sized;
      usable = usable _ _ _ _ _ _ _ _ _ _ _ _ _ _ _ _ _ p.vector_length i.lh (rw p.base_length z.holder) i.ready c.alike.ensures c.going.ensures c.if-not-going.false;
    }

pub take-requires : goal.take-requires
take-requires c = c.has_inductors-inductors.ensures

pub follow-s-requires : goal.follow-s-requires
follow-s-requires c =
    let i = c.loop-left.invariant in
    let z = c.requires in
    c.attempt-r.ensures.kept.0.vector_length ∙ (i.kept.vector_length ∙ (sym z.sized.vectors ∙ sym i.la))

pub overflow_sub-left : goal.overflow_sub-left
overflow_sub-left c = omega (arith, c.loop-left-test.true)

pub loop-left-smaller : goal.loop-left-smaller
loop-left-smaller c = omega (arith, c.loop-left-test.true)

pub loop-left-preserved : goal.loop-left-preserved
loop-left-preserved c =
    let l = c.loop-left in
    let i = l.invariant in
    let t = c.attempt-r in
    let y = c.take in
    let x = c.follow-s in
    let p = t.ensures.kept.0 in
    let live = sym c.going.ensures ∙ c.if-not-going.false in
    let took = takes_over _ _ _ _ _ _ _ _ _ _ _ _ (sym p.vector_length) t.ensures.all y.ensures in
    let passed = pass_joins _ _ _ _ _ _ _ _ _ _ _ _ _ _ _ took _ live x.ensures in
    record {
      la = x.auto.accepted ∙ i.la;
      lh = t.auto.held ∙ i.lh;
      lr = x.auto.rows ∙ i.lr;
      kept = after
          (record {
            base = p.base;
            system = p.system;
            elimination = p.elimination;
            vector = p.vector;
            memory = p.memory;
            base_length = p.base_length;
            system_length = p.system_length;
            elimination_length = p.elimination_length;
            vector_length = p.vector_length;
            memory_length = y.auto.memory ∙ p.memory_length;
          })
          i.kept;
      base = t.ensures.kept.1 ∙ i.base;
      ready = λ k g b. resize _ _ _ _ _ _ _ _ _ _ _ _ i.kept.vector_length (next_pass _ _ _ _ _ _ _ _ _ _ _ _ _ _ _ t.ensures.left y.ensures _ x.ensures g b);
      same = rw t.ensures.kept.1 (taken _ _ _ _ _ _ _ _ l.left i.kept.vector_length passed c.loop-left-test.true i.same);
    }

pub shape_of-accepted : goal.shape_of-accepted
shape_of-accepted c = c.loop-left.invariant.la

pub shape_of-held : goal.shape_of-held
shape_of-held c = c.loop-left.invariant.lh

pub shape_of-rows : goal.shape_of-rows
shape_of-rows c = c.loop-left.invariant.lr

pub returns : goal.returns
unfolding run_for
returns c =
    let i = c.loop-left.invariant in
    let e : c.loop-left.left ≡ 0 = omega arith in
    record { runs = rw e at i.same; kept = i.kept }
