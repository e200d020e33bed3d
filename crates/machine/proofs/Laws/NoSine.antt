-- DC's verdicts where no attempt in DC reports a refused sine: 0, 20, 21, 22 and 24. That no such attempt does is proved of the real stamping in `passes`.
-- Clients cite DcVerdict, SineFree, Free, begins_free, dc_reads and dc_run_reads. Assumes nothing.
use Prim.Native.Nat.{ℕ, zero, suc}
use Rattle.std.specs.Prelude.{◌≡◌, ◌⊎◌, Bool, cond, List, Float}
use Rattle.std.proofs.Common.{sym, ◌∙◌, ⊎_elim, true≢false}
use Rattle.std.proofs.Math.Bool.{true, false}
use Rattle.std.proofs.lemmas.Bool.{eqb-false}
use Rattle.numbers.specs.declared.verdict.Verdict.{Verdict}
use Rattle.numbers.specs.declared.verdict.Verdict.TheVariants.{Settled, PassesUsed, Diverged, DiodeCurrent, BudgetSpent}
use Rattle.numbers.specs.Verdicts.{diode_current}
use Rattle.steps.specs.declared.Counters.{Counters}
use Rattle.steps.specs.declared.Job.{Job}
use Rattle.steps.specs.declared.Phase.TheVariants.{Dc}
use Rattle.steps.specs.Phases.{is_dc}
use Rattle.steps.specs.Laws.Phases.{ended_not_transient, transient_not_dc}
use Rattle.steps.specs.Counters.{started, going, verdict_of, dc_verdict_of}
use Rattle.steps.specs.Laws.Control.{Ends, settles, «runs-out», diverges, Fails, «at-diode», «at-sine», Closed}
use Rattle.machine.specs.State.{Buffers, State, Attempt}
use Rattle.machine.specs.Machine.{pass, run_for}
use Rattle.machine.proofs.Laws.Kept.{Own, fault_at, DcFails, pass_keeps_by}

-- how DC may read: 0, 20, 21, 22, 24
pub data DcVerdict : Verdict → Type 0 where
  «dc-settled» : DcVerdict Settled
  «dc-passes-used» : DcVerdict PassesUsed
  «dc-diverged» : DcVerdict Diverged
  «dc-diode» : DcVerdict DiodeCurrent
  «dc-spent» : DcVerdict BudgetSpent

-- in DC f refuses no sine
abbrev pub SineFree : Attempt → Type 0
SineFree f = (c : Counters) (a : List Float) (x : Buffers) → c.phase ≡ Dc → ((f c a x).fault ≡ 0) ⊎ ((f c a x).fault ≡ diode_current)

-- counters in which no sine of DC was refused: what DC's verdict may read, and a DC run's
pub record Free (transient : Bool) (c : Counters) : Type 0 where
  pub own : Own transient c
  pub dc : DcVerdict c.dc
  pub verdict : transient ≡ false → DcVerdict c.verdict

-- those of a run that is to begin
pub begins_free : (transient : Bool) → Free transient started
begins_free transient = record { own = λ e. absurd (transient_not_dc (sym e)); dc = «dc-settled»; verdict = λ t. «dc-settled» }

ends_dc_lem : {v : Verdict} → Ends false v → DcVerdict v
ends_dc_lem settles = «dc-settled»
ends_dc_lem «runs-out» = «dc-passes-used»
ends_dc_lem diverges = «dc-diverged»

free_closed : (tr : Bool) → Closed tr (Free tr)
free_closed tr =
    record {
      ends = λ c e p. record { own = λ q. absurd (ended_not_transient q); dc = p.dc; verdict = λ t. ends_dc_lem (rw t at e) };
      dcs = λ c e p. record { own = p.own; dc = ends_dc_lem e; verdict = p.verdict };
      begins = λ d c t p. record { own = λ q. t; dc = p.dc; verdict = p.verdict };
      news = λ c p. record { own = p.own; dc = p.dc; verdict = p.verdict };
      agains = λ c p. record { own = p.own; dc = p.dc; verdict = p.verdict };
      steps = λ d c p. record { own = p.own; dc = p.dc; verdict = p.verdict };
      times = λ t c p. record { own = p.own; dc = p.dc; verdict = p.verdict };
      rows = λ c p. record { own = p.own; dc = p.dc; verdict = p.verdict };
    }

module _ (f : Attempt) (j : Job) (none : SineFree f) where
  -- a pass of DC that fails, fails at a diode
  dc_fails : (s : State) (v : Verdict) → Fails v → DcFails f j s v → DcVerdict v
  dc_fails s v «at-diode» h = «dc-diode»
  dc_fails s v «at-sine» h =
      absurd
      (⊎_elim (λ e. eqb-false (fault_at f j s) 0 h.fault e) (λ e. eqb-false (fault_at f j s) diode_current h.diode e)
      (none s.counters s.accepted s.buffers h.phase))

  pass_free : (s : State) → Free j.transient s.counters → Free j.transient (pass f j s).counters
  pass_free s p =
      pass_keeps_by (Free j.transient) f j (free_closed j.transient) s p.own
      (λ v h. let d = dc_fails s v h.fails h in record { own = λ q. absurd (ended_not_transient q); dc = d; verdict = λ t. d })
      (λ v h. record { own = λ q. absurd (ended_not_transient q); dc = p.dc; verdict = λ t. absurd (true≢false (sym (p.own h.phase) ∙ t)) })
      p
      (record { own = p.own; dc = p.dc; verdict = p.verdict })

  run_free : (n : ℕ) (s : State) → Free j.transient s.counters → Free j.transient (run_for f j n s).counters
  unfolding run_for
  run_free zero s p = p
  run_free (suc n) s p = run_free n (pass f j s) (pass_free s p)

  module _ (n : ℕ) (s : State) (p : Free j.transient s.counters) where
    -- DC's verdict after any budget, in a transient too
    pub dc_reads : DcVerdict (dc_verdict_of (run_for f j n s).counters)
    unfolding dc_verdict_of
    dc_reads = by_phase (is_dc (run_for f j n s).counters.phase)
      where
        by_phase : (b : Bool) → DcVerdict (cond b BudgetSpent (run_for f j n s).counters.dc)
        by_phase true = «dc-spent»
        by_phase false = (run_free n s p).dc

    -- and a DC run's
    pub dc_run_reads : j.transient ≡ false → DcVerdict (verdict_of (run_for f j n s).counters)
    unfolding verdict_of
    dc_run_reads t = by_going (going (run_for f j n s).counters)
      where
        by_going : (b : Bool) → DcVerdict (cond b BudgetSpent (run_for f j n s).counters.verdict)
        by_going true = «dc-spent»
        by_going false = (run_free n s p).verdict t
