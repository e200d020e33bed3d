-- A run that ends with 0 ends with a pass that says "yes": so it is where a DC run has settled, and where a transient has come to its end. What holds of the vector and the memory after every such pass holds at the
-- end. Clients cite Over, Holds, run_holds and ends_with_yes. Assumes nothing.
use Prim.Native.Nat.{ℕ, zero, suc}
use Rattle.std.proofs.Math.Path.{◌≡◌, refl}
use Rattle.std.proofs.Common.{sym, subst, inr}
use Rattle.std.specs.Prelude.{Bool, cond, ◌⊎◌, List, ltb, leb, Float}
use Rattle.std.proofs.Math.Bool.{true, false}
use Rattle.std.proofs.Math.Logic.{inl, ⊎_elim}
use Rattle.std.specs.Float.Ieee as Ieee
use Rattle.std.specs.Float.Ieee.{binary64}
use Rattle.numbers.specs.declared.verdict.Verdict.{Verdict}
use Rattle.numbers.specs.declared.verdict.Verdict.TheVariants.{Settled, PassesUsed, Diverged, DiodeCurrent, StepTooSmall, BudgetSpent, NoRoom, SineRefused}
use Rattle.options.specs.declared.Options.{Options}
use Rattle.steps.specs.declared.Counters.{Counters}
use Rattle.steps.specs.declared.Job.{Job}
use Rattle.steps.specs.declared.Report.{Report}
use Rattle.steps.specs.declared.Report.TheVariants.{Yes, No, Error, Diode, Sine}
use Rattle.steps.specs.Phases.{is_dc, is_transient}
use Rattle.steps.specs.Laws.Verdicts.{differ}
use Rattle.steps.specs.Counters.{counted, ended, with_dc, anew, with_step, going, verdict_of}
use Rattle.steps.specs.Control.{dc_over, dc_after, moved, eased, shortened, step_after, row_due}
use Rattle.machine.specs.State.{State, Attempt, Written}
use Rattle.machine.specs.Machine.{tried_by, written_by, landed, accepts, dc_pass, step_pass, pass, run_for}
use Rattle.machine.specs.Laws.Budget.{pass_stopped}

-- ---- the counters

module _ (X : Type 0) where
  -- a run goes on, or it is over, and over with 0 only where X holds
  abbrev pub Over : Counters → Type 0
  Over c = (going c ≡ true) ⊎ ((going c ≡ false) × (c.verdict ≡ Settled → X))

  where_it_holds : (c : Counters) → X → Over c
  where_it_holds c x = go (going c) refl
    where
      go : (b : Bool) → going c ≡ b → Over c
      go true e = inl e
      go false e = inr (e, λ _. x)

  -- over with another verdict
  otherwise : (v : Verdict) (c : Counters) → (v ≡ Settled → ⊥) → Over (ended v c)
  otherwise v c n = inr (refl, λ e. absurd (n e))

  either : (b : Bool) (x y : Counters) → Over x → Over y → Over (cond b x y)
  either true x y p q = p
  either false x y p q = q

  after_dc_over : (o : Options) (tr : Bool) (v : Verdict) (c : Counters) → (v ≡ Settled → ⊥) → Over (dc_over o tr v c)
  unfolding dc_over
  after_dc_over o true v c n = inl refl
  after_dc_over o false v c n = otherwise v (with_dc v c) n

  -- after a pass of DC, and after one of a step
  after_dc : (o : Options) (tr : Bool) (r : Report) (c : Counters) → going c ≡ true → (r ≡ Yes → X) → Over (dc_after o tr r c)
  unfolding dc_after
  after_dc o tr Yes c g x = where_it_holds (dc_over o tr Settled (counted c)) (x refl)
  after_dc o tr No c g x = either (ltb o.itl1 (counted c).count) _ _ (after_dc_over o tr PassesUsed (counted c) (differ refl)) (inl g)
  after_dc o tr Error c g x = after_dc_over o tr Diverged (counted c) (differ refl)
  after_dc o tr Diode c g x = otherwise DiodeCurrent (with_dc DiodeCurrent c) (differ refl)
  after_dc o tr Sine c g x = otherwise SineRefused (with_dc SineRefused c) (differ refl)

  after_step : (o : Options) (r : Report) (c : Counters) → going c ≡ true → (r ≡ Yes → X) → Over (step_after o r c)
  unfolding step_after shortened
  after_step o Yes c g x = where_it_holds (anew (moved o (eased o (counted c)))) (x refl)
  after_step o No c g x =
      let d = Ieee.mul binary64 c.step o.ft in
      either (leb o.itl4 (counted c).count) _ _
      (either (Ieee.lt d (Ieee.mul binary64 o.tstep o.rmin)) _ _ (otherwise StepTooSmall (moved o (with_step d (counted c))) (differ refl)) (inl g)) (inl g)
  after_step o Error c g x = otherwise Diverged (moved o (counted c)) (differ refl)
  after_step o Diode c g x = otherwise DiodeCurrent c (differ refl)
  after_step o Sine c g x = otherwise SineRefused c (differ refl)

  -- and after a row
  either_written : (b : Bool) (x y : Written) → Over x.counters → Over y.counters → Over (cond b x y).counters
  either_written true x y p q = p
  either_written false x y p q = q

  after_row : (c : Counters) (v rows : List Float) → Over c → Over (written_by c v rows).counters
  unfolding written_by
  after_row c v rows p = either_written (ltb c.rows _) _ _ p (otherwise NoRoom c (differ refl))

  after_landing : (o : Options) (c : Counters) (v rows : List Float) → Over c → Over (landed o c v rows).counters
  unfolding landed
  after_landing o c v rows p = either_written (row_due o c.time) _ _ (after_row c v rows p) p

-- ---- a run

module _ (P : List Float → List Float → Type 0) (f : Attempt) (j : Job)
    (yes : (s : State) → (tried_by f j s).report ≡ Yes → P (tried_by f j s).vector (tried_by f j s).memory) where
  -- P holds of the vector and the memory, if the run is over with 0
  abbrev pub Holds : State → Type 0
  Holds s = Over (P s.buffers.vector s.buffers.memory) s.counters

  dc_holds : (s : State) → going s.counters ≡ true → Holds (dc_pass f j s)
  unfolding dc_pass
  dc_holds s g =
      let X = P (tried_by f j s).vector (tried_by f j s).memory in
      let c = dc_after j.options j.transient (tried_by f j s).report s.counters in
      let p = after_dc X j.options j.transient (tried_by f j s).report s.counters g (yes s) in
      either_written X (is_transient c.phase) _ _ (after_row X c (tried_by f j s).vector s.buffers.rows p) p

  step_holds : (s : State) → going s.counters ≡ true → Holds (step_pass f j s)
  unfolding step_pass
  step_holds s g = go (accepts (tried_by f j s).report) _ _ (after_landing X j.options c (tried_by f j s).vector s.buffers.rows p) p
    where
      X : Type 0
      X = P (tried_by f j s).vector (tried_by f j s).memory

      c : Counters
      c = step_after j.options (tried_by f j s).report s.counters

      p : Over X c
      p = after_step X j.options (tried_by f j s).report s.counters g (yes s)

      go : (b : Bool) (x y : State) → Holds x → Holds y → Holds (cond b x y)
      go true x y a z = a
      go false x y a z = z

  live_holds : (s : State) → Holds s → going s.counters ≡ true → Holds (pass f j s)
  unfolding pass
  live_holds s p g = by_phase (is_dc s.counters.phase) (is_transient s.counters.phase)
    where
      by_phase : (a b : Bool) → Holds (cond a (dc_pass f j s) (cond b (step_pass f j s) s))
      by_phase true b = dc_holds s g
      by_phase false true = step_holds s g
      by_phase false false = p

  pass_holds : (s : State) → Holds s → Holds (pass f j s)
  pass_holds s p = by_going (going s.counters) refl
    where
      by_going : (b : Bool) → going s.counters ≡ b → Holds (pass f j s)
      by_going true g = live_holds s p g
      by_going false g = subst Holds (sym (pass_stopped f j s g)) p

  pub run_holds : (n : ℕ) (s : State) → Holds s → Holds (run_for f j n s)
  unfolding run_for
  run_holds zero s p = p
  run_holds (suc n) s p = run_holds n (pass f j s) (pass_holds s p)

  -- where it is over with 0, P holds
  over_with : (c : Counters) (X : Type 0) → Over X c → verdict_of c ≡ Settled → X
  unfolding verdict_of
  over_with c X p e =
      ⊎_elim
      (λ (h : going c ≡ true). absurd (differ {v = BudgetSpent} {w = Settled} refl (rw h at e)))
      (λ (h : (going c ≡ false) × (c.verdict ≡ Settled → X)). h.1 (rw h.0 at e))
      p

  pub ends_with_yes : (n : ℕ) (s : State) → Holds s → verdict_of (run_for f j n s).counters ≡ Settled
      → P (run_for f j n s).buffers.vector (run_for f j n s).buffers.memory
  ends_with_yes n s p e = over_with (run_for f j n s).counters _ (run_holds n s p) e
