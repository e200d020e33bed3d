-- A settled DC run has a finite vector: the last pass that says "yes" has looked at every unknown, and no later pass writes. Clients cite AllFinite and alone_finite. Assumes nothing.
use Prim.Native.Nat.{ℕ, zero, suc, ◌<◌, ◌≤◌}
use Rattle.std.proofs.Math.Path.{◌≡◌, ap, subst}
use Rattle.std.specs.Prelude.{refl, Bool, List, eqb, ltb, length, get_or, take, drop, Float}
use Rattle.std.proofs.Common.{inl}
use Rattle.std.proofs.Math.Bool.{true, false, cond}
use Rattle.std.proofs.Math.Logic.{⊎_elim}
use native.Mathlib.Omega.{arith}
use Rattle.std.specs.Int.Count.{count_trailing_zeros}
use Rattle.std.proofs.Math.Dec.{T}
use Rattle.std.proofs.lemmas.List.{length-replicate, get_or-replicate}
use Rattle.std.proofs.Math.ListN.{get_or-append}
use Rattle.std.specs.Float.Ieee as Ieee
use Rattle.std.specs.Float.{nan}
use Rattle.std.specs.Float.Ieee.{binary64, of_bits, of_fields, odd}
use Rattle.std.specs.Float.Ieee.Scale.{finite}
use Rattle.num.specs.Floats.{nought, absolute_of}
use Rattle.loops.specs.Loop.{turns, zeros_like}
use Rattle.loops.specs.Laws.Loop.{le_or_lt}
use Rattle.options.specs.declared.Options.{Options}
use Rattle.convergence.specs.declared.Convergence.{Convergence}
use Rattle.convergence.specs.declared.Convergence.TheVariants as check
use Rattle.convergence.specs.Convergence.{number_of, limit, place, place_at, checked, convergence_of}
use Rattle.checks.specs.Checks.{order, records}
use Rattle.steps.specs.declared.Report.{Report}
use Rattle.steps.specs.declared.Report.TheVariants.{Yes, Diode, Sine}
use Rattle.numbers.specs.declared.verdict.Verdict.TheVariants.{Settled}
use Rattle.numbers.specs.Verdicts.{settled, diode_current}
use Rattle.steps.specs.Counters.{top, verdict_of}
use Rattle.steps.specs.Control.{report_of}
use Rattle.steps.specs.Laws.Verdicts.{one_verdict}
use Rattle.steps.specs.Laws.Waited.{waited_yes}
use Rattle.steps.specs.declared.Job.{Job}
use Rattle.machine.specs.State.{State, Attempt}
use Rattle.machine.specs.Machine.{before, compared, tried, took, tried_by}
use Rattle.machine.proofs.Laws.Settles.{ends_with_yes}
use Rattle.passes.specs.Attempt.{attempt_of}
use Rattle.engine.specs.Work.{start_of, end_of}
use Rattle.engine.specs.Engine.{Call, sizes, circuit, last_of}
use Rattle.engine.specs.Laws.Promises.{rows_stand}
use Rattle.single.specs.Single.{Single, fresh, alone}
use Rattle.single.specs.Laws.Alone.{last, by_check}

-- every number of x is finite
abbrev pub AllFinite : List Float → Type 0
AllFinite x = (i : ℕ) → i < length x → T (finite (get_or x i nan))

-- ---- the check that says "yes"

yes_place : (b c : Bool) (r : Convergence) → cond b (cond c check.No r) check.Error ≡ check.Yes → T b × (r ≡ check.Yes)
yes_place true true r e = absurd (let z : ◌≡◌ {A = ℕ} 1 0 = ap number_of e in omega arith)
yes_place true false r e = (tt, e)
yes_place false c r e = absurd (let z : ◌≡◌ {A = ℕ} 2 0 = ap number_of e in omega arith)

module _ (x y : List Float) (nodes : ℕ) (o : Options) where
  yes_places : (k : ℕ) → turns k (place_at x y nodes o) check.Yes ≡ check.Yes → (i : ℕ) → i < k → T (finite (get_or x i nan))
  unfolding place
  yes_places zero e i h = absurd (omega arith)
  yes_places (suc k) e i h =
      let p = yes_place (finite (get_or x k nan)) (Ieee.lt (limit (get_or x k nan) (ltb k nodes) o) (absolute_of (Ieee.sub binary64 (get_or x k nan) (get_or y k nan)))) (turns k (place_at x y nodes o) check.Yes) e in
      ⊎_elim
      (λ (q : k ≤ i). let u : k ≡ i = omega arith in subst (λ (j : ℕ). T (finite (get_or x j nan))) u p.0)
      (λ (q : i < k). yes_places k p.1 i q)
      (le_or_lt k i)

  yes_finite : convergence_of x y nodes o ≡ check.Yes → AllFinite x
  unfolding convergence_of checked
  yes_finite e = go (ltb (length y) (length x)) e
    where
      go : (b : Bool) → cond b check.Refused (turns (length x) (place_at x y nodes o) check.Yes) ≡ check.Yes → AllFinite x
      go true q = absurd (let z : ◌≡◌ {A = ℕ} 5 0 = ap number_of q in omega arith)
      go false q = yes_places (length x) q

-- ---- the pass that reports it

yes_check : (c : Convergence) → report_of c ≡ Yes → c ≡ check.Yes
yes_check check.Yes e = refl
yes_check check.No e = absurd (let z : ◌≡◌ {A = ℕ} 0 1 = cc in omega arith)
yes_check check.Error e = absurd (let z : ◌≡◌ {A = ℕ} 0 1 = cc in omega arith)
yes_check check.Refused e = absurd (let z : ◌≡◌ {A = ℕ} 0 1 = cc in omega arith)

yes_reported : (a b : Bool) (r : Report) → cond a r (cond b Diode Sine) ≡ Yes → r ≡ Yes
yes_reported true b r e = e
yes_reported false true r e = absurd (let z : ◌≡◌ {A = ℕ} 0 1 = cc in omega arith)
yes_reported false false r e = absurd (let z : ◌≡◌ {A = ℕ} 0 1 = cc in omega arith)

module _ (f : Attempt) (j : Job) (s : State) where
  tried_finite : (tried_by f j s).report ≡ Yes → AllFinite (tried_by f j s).vector
  unfolding took tried compared
  tried_finite e =
      let a = f s.counters s.accepted s.buffers in
      yes_finite a.vector (before s.counters.first s.buffers.vector) j.nodes j.options
      (yes_check _ (yes_reported (eqb a.fault 0) (eqb a.fault diode_current) _ (waited_yes j.options a.behind _ e)))

-- ---- a job

last_finite : (c : Call) → verdict_of (last_of c).counters ≡ Settled → AllFinite (last_of c).buffers.vector
unfolding end_of
last_finite c e =
    ends_with_yes (λ (v m : List Float). AllFinite v) (attempt_of (circuit c)) c.job (tried_finite (attempt_of (circuit c)) c.job)
    c.job.options.budget (start_of (circuit c) (take (records (sizes c)) c.lent.memory) c.lent.rows) (inl refl) e

finite_nought : T (finite nought)
unfolding of_bits of_fields odd count_trailing_zeros
finite_nought = tt

-- a settled job's unknowns are finite
pub alone_finite : (c : Call) (u : ℕ) → c.job.transient ≡ false → length c.lent.rows ≤ top → length c.lent.vector ≡ order (sizes c) → u < order (sizes c) → (alone c).mark.number ≡ settled
    → T (finite (get_or (alone c).vector u nan))
alone_finite c u d few h l =
    by_check c (λ (x : Single). x.mark.number ≡ settled → T (finite (get_or x.vector u nan)))
    (λ q e.
    let x = (last c).buffers.vector in
    let m : u < length x = omega (arith, (rows_stand (fresh c) (rw (length-replicate (length c.lent.rows) nought) few)).long) in
    rw (get_or-append x (drop (order (sizes c)) (zeros_like c.lent.vector)) nan u m) (last_finite (fresh c) (one_verdict _ Settled e) u m))
    (λ f q e. rw (get_or-replicate (length c.lent.vector) u nought nan (omega (arith, h))) finite_nought)
