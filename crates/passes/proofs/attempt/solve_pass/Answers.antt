-- `passes::attempt::solve_pass` meets its contract: the pass before again, or a pass of its own. Assumes nothing.
use Prim.Native.Nat.{ℕ}
use mathlib.Core.Path.{◌≡◌, refl, sym, ap, ◌∙◌}
use mathlib.Core.Bool.{Bool, true, false, cond, ◌&&◌, false≢true, and-eq-true_iff as both}
use mathlib.Core.List.{List}
use borrow.Author.Rules.{rules}
use lib.Dec.{eqb}
use lib.ListN.{length}
use Rattle.steps.specs.declared.Report.{Report}
use Rattle.steps.specs.declared.Report.TheVariants.{Diode, Sine}
use Rattle.numbers.specs.Verdicts.{diode_current}
use Rattle.steps.specs.Control.{solved}
use Rattle.passes.specs.Again.{failure_of, bare, Holder}
use Rattle.passes.specs.Laws.Lent.{after}
use Rattle.passes.proofs.Joins.{whole_code, unstamped, stamped_first, repeated, leaves}
use Rattle.passes.proofs.attempt.solve_pass.Goals as goal

unsolved : (k : ℕ) (r : Report) → r ≡ failure_of k → solved r ≡ true → ⊥
unfolding failure_of
unsolved k r e s = go (eqb k diode_current) (ap solved (sym e) ∙ s)
  where
    go : (b : Bool) → solved (cond b Diode Sine) ≡ true → ⊥
    go true h = false≢true h
    go false h = false≢true h

-- a matrix that is as long holds as much
held-as : (sheet places : List ℕ) (base held held₀ : ℕ) → held ≡ held₀ → Holder sheet places base held₀ → Holder sheet places base held
held-as sheet places base held held₀ e h = rw e h

-- the first of two, where not both hold and the second does
alone : (a b : Bool) → (a && b) ≡ false → b ≡ true → a ≡ false
alone true b e h = absurd (false≢true (sym e ∙ h))
alone false b e h = refl

pub returns-then-held-again : goal.returns-then-held-again
returns-then-held-again c =
    let u = c.requires.usable in
    let b = (both (bare (length c.args.held.now)) _).0 c.if-held-again.true in
    let h = u.holds b.1 in
    record { all = rw c.compare.ensures (repeated _ _ _ _ _ _ _ _ _ u.holder b.0 (h.whole b.0).0 (h.whole b.0).1 (u.later b.1)); left = λ _. h; kept = search rules }

pub stamp_first-code-requires : goal.stamp_first-code-requires
stamp_first-code-requires c =
    let z = c.requires in
    record {
      elimination_len = z.sized.works ∙ sym z.sized.bases;
      held_len = λ a.
          let d = alone _ _ c.if-held-again.false a in
          (z.usable.holder.long d, rw c.pass_of-p.ensures ((z.usable.holds a).part d));
    }

pub returns-then-code-ne0 : goal.returns-then-code-ne0
returns-then-code-ne0 c =
    let t = c.stamp_first-code in
    let q = t.ensures.rest in
    let w = c.args.w.now in
    record { all = rw (c.failure.ensures, q.system, q.vector, q.memory) (unstamped _ _ _ w.base.now w.system.now w.vector.now w.memory.now _ _ (rw c.pass_of-p.ensures at t.ensures.stamps) c.if-code-ne0.true); left = λ s. absurd (unsolved _ _ c.failure.ensures s); kept = (q.kept, q.base) }

pub finish-requires : goal.finish-requires
finish-requires c =
    let z = c.requires in
    let q = c.stamp_first-code.ensures.rest.kept in
    let l = q.elimination_length ∙ z.sized.works in
    rw (q.vector_length, q.system_length) record { square = (record { some = z.sized.some; small = z.sized.small; cells = l }, z.sized.systems ∙ sym l); listed = z.usable.holder.listed }

pub returns : goal.returns
returns c =
    let u = c.requires.usable in
    let t = c.stamp_first-code in
    let a = c.args in
    let k = c.if-code-ne0.false in
    let e = whole_code _ _ _ k (rw c.pass_of-p.ensures at t.ensures.stamps) in
    let w = a.w.now in
    let q = t.ensures.rest in
    let f = rw (q.system, q.vector, q.memory) at c.finish.ensures.all in
    let lh = t.auto.held in
    record {
      all = f ∙ stamped_first _ _ _ w.base.now w.system.now w.vector.now w.memory.now _ e refl;
      left = λ _. rw (c.finish.ensures.kept.1, q.base) (leaves _ _ _ w.base.now w.system.now w.vector.now w.memory.now _ _ _ _ _ _ _ (held-as _ _ _ _ _ lh u.holder) refl e (λ h. t.ensures.holds (u.holder.long (ap bare (sym lh) ∙ h)) k) f);
      kept = (after c.finish.ensures.kept.0 q.kept, c.finish.ensures.kept.1 ∙ q.base);
    }
