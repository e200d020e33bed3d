-- Every run has exactly one verdict, for every stamping and solving f: 24 where it is still going when its budget ends, and else one of its kind.
-- Clients cite Verdict, Told, begins_told, one_verdict, still_going and DC's verdict. Assumes nothing.
use Prim.Native.Nat.{ℕ, zero, suc}
use Rattle.std.specs.Prelude.{◌≡◌, Bool}
use Rattle.std.proofs.Math.Path.{refl}
use Rattle.std.proofs.Math.Bool.{true, false, cond}
use Rattle.std.proofs.Common.{sym}
use Rattle.steps.specs.declared.Counters.{Counters}
use Rattle.numbers.specs.declared.verdict.Verdict as verdicts
use Rattle.numbers.specs.declared.verdict.Verdict.TheVariants.{BudgetSpent}
use Rattle.steps.specs.Phases.{is_dc}
use Rattle.steps.specs.Laws.Phases.{ended_not_transient, transient_not_dc}
use Rattle.steps.specs.Laws.Verdicts.{differ}
use Rattle.steps.specs.Counters.{started, going, verdict_of, dc_verdict_of}
use Rattle.steps.specs.Laws.Control.{Ends, settles, «runs-out», diverges, shrinks, fills, Fails, «at-diode», «at-sine», Closed}
use Rattle.steps.specs.declared.Job.{Job}
use Rattle.machine.specs.State.{State, Attempt}
use Rattle.machine.specs.Machine.{pass, run_for}
use Rattle.machine.proofs.Laws.Kept.{Own, Failed, pass_keeps}

-- how a run that has ended ended: in a solved pass, or in one that failed
pub data Ended (transient : Bool) (v : verdicts.Verdict) : Type 0 where
  ends : Ends transient v → Ended transient v
  fails : Fails v → Ended transient v

-- the verdicts of a DC run (false), for any f: 0, 20, 21, 22, 24, 26 (NoSine: not 26 where f refuses no sine in DC); of a transient (true): 0, 21, 22, 23, 24, 25, 26
pub data Verdict (transient : Bool) : verdicts.Verdict → Type 0 where
  ended : {v : verdicts.Verdict} → Ended transient v → Verdict transient v
  spent : Verdict transient BudgetSpent

-- counters whose verdicts are their run's own
pub record Told (transient : Bool) (c : Counters) : Type 0 where
  pub own : Own transient c
  pub verdict : Ended transient c.verdict
  pub dc : Ended false c.dc

-- those of a run that is to begin
pub begins_told : (transient : Bool) → Told transient started
begins_told transient = record { own = λ e. absurd (transient_not_dc (sym e)); verdict = ends settles; dc = ends settles }

told_closed : (tr : Bool) → Closed tr (Told tr)
told_closed tr =
    record {
      ends = λ c e p. record { own = λ q. absurd (ended_not_transient q); verdict = ends e; dc = p.dc };
      dcs = λ c e p. record { own = p.own; verdict = p.verdict; dc = ends e };
      begins = λ d c t p. record { own = λ q. t; verdict = p.verdict; dc = p.dc };
      news = λ c p. record { own = p.own; verdict = p.verdict; dc = p.dc };
      agains = λ c p. record { own = p.own; verdict = p.verdict; dc = p.dc };
      steps = λ d c p. record { own = p.own; verdict = p.verdict; dc = p.dc };
      times = λ t c p. record { own = p.own; verdict = p.verdict; dc = p.dc };
      rows = λ c p. record { own = p.own; verdict = p.verdict; dc = p.dc };
    }

told_failed : (tr : Bool) (c : Counters) → Told tr c → (v : verdicts.Verdict) → Fails v → Failed (Told tr) c v
told_failed tr c p v e =
    record {
      step = record { own = λ q. absurd (ended_not_transient q); verdict = fails e; dc = p.dc };
      dc = record { own = λ q. absurd (ended_not_transient q); verdict = fails e; dc = fails e };
    }

-- 24 is no end
not_spent : (tr : Bool) (v : verdicts.Verdict) → Ended tr v → v ≡ BudgetSpent → ⊥
not_spent tr v (ends settles) e = differ refl e
not_spent tr v (ends «runs-out») e = differ refl e
not_spent tr v (ends diverges) e = differ refl e
not_spent tr v (ends shrinks) e = differ refl e
not_spent tr v (ends fills) e = differ refl e
not_spent tr v (fails «at-diode») e = differ refl e
not_spent tr v (fails «at-sine») e = differ refl e

module _ (f : Attempt) (j : Job) where
  pub pass_told : (s : State) → Told j.transient s.counters → Told j.transient (pass f j s).counters
  pass_told s p =
      pass_keeps (Told j.transient) f j (told_closed j.transient) s p.own (told_failed j.transient s.counters p) p
      (record { own = p.own; verdict = p.verdict; dc = p.dc })

  pub run_told : (n : ℕ) (s : State) → Told j.transient s.counters → Told j.transient (run_for f j n s).counters
  unfolding run_for
  run_told zero s p = p
  run_told (suc n) s p = run_told n (pass f j s) (pass_told s p)

  module _ (n : ℕ) (s : State) (p : Told j.transient s.counters) where
    -- after any budget the run's verdict is one of its kind
    pub one_verdict : Verdict j.transient (verdict_of (run_for f j n s).counters)
    unfolding verdict_of
    one_verdict = by_going (going (run_for f j n s).counters)
      where
        by_going : (b : Bool) → Verdict j.transient (cond b BudgetSpent (run_for f j n s).counters.verdict)
        by_going true = spent
        by_going false = ended (run_told n s p).verdict

    -- it is 24 only where the run is still going
    pub still_going : verdict_of (run_for f j n s).counters ≡ BudgetSpent → going (run_for f j n s).counters ≡ true
    unfolding verdict_of
    still_going e = by_going (going (run_for f j n s).counters) e
      where
        by_going : (b : Bool) → cond b BudgetSpent (run_for f j n s).counters.verdict ≡ BudgetSpent → b ≡ true
        by_going true e = refl
        by_going false e = absurd (not_spent j.transient _ (run_told n s p).verdict e)

    -- DC's verdict is a DC run's, in a transient too: never 23 or 25
    pub dc_verdict : Verdict false (dc_verdict_of (run_for f j n s).counters)
    unfolding dc_verdict_of
    dc_verdict = by_phase (is_dc (run_for f j n s).counters.phase)
      where
        by_phase : (b : Bool) → Verdict false (cond b BudgetSpent (run_for f j n s).counters.dc)
        by_phase true = spent
        by_phase false = ended (run_told n s p).dc
