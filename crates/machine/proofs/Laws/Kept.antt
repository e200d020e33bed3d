-- What a pass keeps, for every stamping and solving f: a fact of the counters that no small change breaks holds after a solved pass if it holds of the
-- counted counters; a pass that is not solved ends the run and counts nothing. Assumes nothing.
use Rattle.std.specs.Prelude.{ℕ, ◌≡◌, Bool, cond, List, ltb, Float}
use Rattle.std.proofs.Math.Path.{refl}
use Rattle.std.proofs.Common.{sym, subst, ◌∙◌}
use Rattle.std.proofs.Math.Bool.{true, false}
use Rattle.std.proofs.Math.Dec.{eqb}
use Rattle.options.specs.declared.Options.{Options}
use Rattle.convergence.specs.declared.Convergence.{Convergence}
use Rattle.convergence.specs.declared.Convergence.TheVariants as check
use Rattle.convergence.specs.Convergence.{convergence_of}
use Rattle.steps.specs.declared.Counters.{Counters}
use Rattle.steps.specs.declared.Report.TheVariants.{Diode, Sine}
use Rattle.numbers.specs.declared.verdict.Verdict.{Verdict}
use Rattle.numbers.specs.Verdicts.{diode_current, number_of}
use Rattle.steps.specs.declared.Phase.TheVariants.{Dc, Transient}
use Rattle.steps.specs.Phases.{is_dc, is_transient}
use Rattle.steps.specs.Laws.Phases.{ended_not_transient, dc_phase, transient_phase, neither_phase}
use Rattle.steps.specs.Counters.{counted, ended, with_dc, going}
use Rattle.steps.specs.Control.{report_of, waited, dc_after, step_after, row_due}
use Rattle.steps.specs.Laws.Waited.{waited_solved}
use Rattle.steps.specs.Laws.Control.{fills, Fails, «at-diode», «at-sine», Closed, dc_keeps, step_keeps}
use Rattle.steps.specs.Control.{solved}
use Rattle.steps.specs.declared.Job.{Job}
use Rattle.machine.specs.State.{State, Attempt, Written}
use Rattle.machine.specs.Machine.{before, compared, tried, took, tried_by, written_by, landed, accepts, dc_pass, step_pass, pass}
use Rattle.machine.specs.Laws.Budget.{pass_stopped}

-- ---- what an attempt reports

check_solved : (c : Convergence) → solved (report_of c) ≡ true
check_solved check.Yes = refl
check_solved check.No = refl
check_solved check.Error = refl
check_solved check.Refused = refl

module _ (f : Attempt) (j : Job) (s : State) where
  -- what is wrong with the attempt: 0 is nothing
  abbrev pub fault_at : ℕ
  fault_at = (f s.counters s.accepted s.buffers).fault

  -- the first diode that is behind in what it solved
  abbrev pub behind_at : ℕ
  behind_at = (f s.counters s.accepted s.buffers).behind

  report_solved : eqb fault_at 0 ≡ true → solved (tried_by f j s).report ≡ true
  unfolding took tried compared
  report_solved h = waited_solved j.options behind_at _ ∙ (rw h (check_solved (convergence_of (f s.counters s.accepted s.buffers).vector (before s.counters.first s.buffers.vector) j.nodes j.options)))

  report_diode : eqb fault_at 0 ≡ false → eqb fault_at diode_current ≡ true → (tried_by f j s).report ≡ Diode
  unfolding took tried compared waited
  report_diode h d = rw (h, d)

  report_sine : eqb fault_at 0 ≡ false → eqb fault_at diode_current ≡ false → (tried_by f j s).report ≡ Sine
  unfolding took tried compared waited
  report_sine h d = rw (h, d)

-- ---- a pass that is solved

module _ (P : Counters → Type 0) where
  either : (b : Bool) (x y : Written) → P x.counters → P y.counters → P (cond b x y).counters
  either true x y p q = p
  either false x y p q = q

  either_state : (b : Bool) (x y : State) → P x.counters → P y.counters → P (cond b x y).counters
  either_state true x y p q = p
  either_state false x y p q = q

  module _ (k : Closed true P) where
    write_keeps : (c : Counters) (v rows : List Float) → P c → P (written_by c v rows).counters
    unfolding written_by
    write_keeps c v rows p = either (ltb c.rows _) _ _ (k.rows c p) (k.ends c fills p)

    land_keeps : (o : Options) (c : Counters) (v rows : List Float) → P c → P (landed o c v rows).counters
    unfolding landed
    land_keeps o c v rows p = either (row_due o c.time) _ _ (write_keeps c v rows p) p

-- only a transient comes to the transient's phase
abbrev pub Own : Bool → Counters → Type 0
Own tr c = c.phase ≡ Transient → tr ≡ true

own_closed : (tr : Bool) → Closed tr (Own tr)
own_closed tr =
    record {
      ends = λ c e p q. absurd (ended_not_transient q);
      dcs = λ c e p. p;
      begins = λ d c t p q. t;
      news = λ c p. p;
      agains = λ c p. p;
      steps = λ d c p. p;
      times = λ t c p. p;
      rows = λ c p. p;
    }

-- a live run is in one of its two phases
neither : (c : Counters) → going c ≡ true → is_dc c.phase ≡ false → is_transient c.phase ≡ false → ⊥
neither c = neither_phase c.phase

-- the counters after DC's pass, before a row is written
abbrev dc_next : Attempt → Job → State → Counters
dc_next f j s = dc_after j.options j.transient (tried_by f j s).report s.counters

module _ (P : Counters → Type 0) (f : Attempt) (j : Job) (k : Closed j.transient P) (s : State) where
  in_transient : (c : Counters) → Own j.transient c → is_transient c.phase ≡ true → Closed true P
  in_transient c own h = subst (λ (t : Bool). Closed t P) (own (transient_phase c.phase h)) k

  dc_pass_lem : P (dc_next f j s) → Own j.transient (dc_next f j s) → P (dc_pass f j s).counters
  unfolding dc_pass
  dc_pass_lem p own = go (is_transient (dc_next f j s).phase) refl
    where
      go : (b : Bool) → is_transient (dc_next f j s).phase ≡ b → P (dc_pass f j s).counters
      go true h = rw h (write_keeps P (in_transient (dc_next f j s) own h) _ _ _ p)
      go false h = rw h p

  step_pass_lem : Closed true P → P (step_after j.options (tried_by f j s).report s.counters) → P (step_pass f j s).counters
  unfolding step_pass
  step_pass_lem t p = either_state P (accepts (tried_by f j s).report) _ _ (land_keeps P t _ _ _ _ p) p

  -- a live run whose pass is solved
  pub pass_solved : going s.counters ≡ true → Own j.transient s.counters → eqb (fault_at f j s) 0 ≡ true → P (counted s.counters) → P (pass f j s).counters
  unfolding pass
  pass_solved g own h p = by_phase (is_dc s.counters.phase) (is_transient s.counters.phase) refl refl
    where
      w : solved (tried_by f j s).report ≡ true
      w = report_solved f j s h

      by_phase : (a b : Bool) → is_dc s.counters.phase ≡ a → is_transient s.counters.phase ≡ b → P (cond a (dc_pass f j s) (cond b (step_pass f j s) s)).counters
      by_phase true b x y = dc_pass_lem (dc_keeps P j.options j.transient k _ _ w p) (dc_keeps (Own j.transient) j.options j.transient (own_closed j.transient) _ _ w own)
      by_phase false true x y = let t = in_transient s.counters own y in step_pass_lem t (step_keeps P j.options t _ _ w p)
      by_phase false false x y = absurd (neither s.counters g x y)

-- ---- a pass that is not solved

-- how it fails with v, 22 or 26: in DC, with 22 just where that is the attempt's fault, and in a transient's step
pub record DcFails (f : Attempt) (j : Job) (s : State) (v : Verdict) : Type 0 where
  pub fails : Fails v
  pub phase : s.counters.phase ≡ Dc
  pub fault : eqb (fault_at f j s) 0 ≡ false
  pub diode : eqb (fault_at f j s) diode_current ≡ eqb (number_of v) diode_current

pub record StepFails (s : State) (v : Verdict) : Type 0 where
  pub fails : Fails v
  pub phase : s.counters.phase ≡ Transient

-- what holds of the counters c ended by a pass that failed: in a transient, and in DC, whose own verdict that is too
pub record Failed (Q : Counters → Type 0) (c : Counters) (v : Verdict) : Type 0 where
  pub step : Q (ended v c)
  pub dc : Q (ended v (with_dc v c))

module _ (f : Attempt) (j : Job) (s : State) (Q : Counters → Type 0) where
  -- a live run ends with 22 or 26, and nothing is counted
  failed_by : going s.counters ≡ true → eqb (fault_at f j s) 0 ≡ false → ((v : Verdict) → DcFails f j s v → Q (ended v (with_dc v s.counters))) → ((v : Verdict) → StepFails s v → Q (ended v s.counters)) → Q (pass f j s).counters
  unfolding pass dc_pass step_pass dc_after step_after
  failed_by g h d q = by_phase (is_dc s.counters.phase) (is_transient s.counters.phase) (eqb (fault_at f j s) diode_current) refl refl refl
    where
      by_phase : (a b e : Bool) → is_dc s.counters.phase ≡ a → is_transient s.counters.phase ≡ b → eqb (fault_at f j s) diode_current ≡ e → Q (cond a (dc_pass f j s) (cond b (step_pass f j s) s)).counters
      by_phase true b true x y z = rw (report_diode f j s h z) (d _ (record { fails = «at-diode»; phase = dc_phase _ x; fault = h; diode = z }))
      by_phase true b false x y z = rw (report_sine f j s h z) (d _ (record { fails = «at-sine»; phase = dc_phase _ x; fault = h; diode = z }))
      by_phase false true true x y z = rw (report_diode f j s h z) (q _ (record { fails = «at-diode»; phase = transient_phase _ y }))
      by_phase false true false x y z = rw (report_sine f j s h z) (q _ (record { fails = «at-sine»; phase = transient_phase _ y }))
      by_phase false false e x y z = absurd (neither s.counters g x y)

  -- the same, where it does not matter how
  pub pass_failed : going s.counters ≡ true → eqb (fault_at f j s) 0 ≡ false → ((v : Verdict) → Fails v → Failed Q s.counters v) → Q (pass f j s).counters
  pass_failed g h q = failed_by g h (λ v e. (q v e.fails).dc) (λ v e. (q v e.fails).step)

-- ---- any pass

module _ (P : Counters → Type 0) (f : Attempt) (j : Job) (k : Closed j.transient P) (s : State) where
  -- a fact that no failed pass breaks either, of the counters as they are and as counted, holds after the pass
  pub pass_keeps_by : Own j.transient s.counters → ((v : Verdict) → DcFails f j s v → P (ended v (with_dc v s.counters))) → ((v : Verdict) → StepFails s v → P (ended v s.counters)) → P s.counters → P (counted s.counters) → P (pass f j s).counters
  pass_keeps_by own d e p q = by_going (going s.counters) refl (eqb (fault_at f j s) 0) refl
    where
      by_going : (g : Bool) → going s.counters ≡ g → (b : Bool) → eqb (fault_at f j s) 0 ≡ b → P (pass f j s).counters
      by_going false g b h = subst (λ (t : State). P t.counters) (sym (pass_stopped f j s g)) p
      by_going true g true h = pass_solved P f j k s g own h q
      by_going true g false h = failed_by f j s P g h d e

  pub pass_keeps : Own j.transient s.counters → ((v : Verdict) → Fails v → Failed P s.counters v) → P s.counters → P (counted s.counters) → P (pass f j s).counters
  pass_keeps own e = pass_keeps_by own (λ v x. (e v x.fails).dc) (λ v x. (e v x.fails).step)
