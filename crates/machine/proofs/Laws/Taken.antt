-- Where the inductors take their currents, for every stamping and solving f: in the pass that ends DC with 0, 20 or 21 and in a step that is accepted, and nowhere else. The memory is then what the attempt has for `taken`,
-- at the counters, the accepted vector and the buffers with which the pass began: so it is the step before it is doubled. Clients cite all that is `pub`. Assumes nothing.
use Rattle.std.specs.Prelude.{◌+◌, ◌/◌, ◌≤◌, ◌≡◌, Bool, cond, not, List, ◌⊎◌, ltb, length, Float}
use Rattle.std.proofs.Math.Path.{refl, ap}
use Rattle.std.proofs.Common.{subst, sym, ◌∙◌, inr, ⊎_elim}
use Rattle.std.proofs.Math.Bool.{true, false}
use Rattle.std.proofs.Math.Logic.{inl}
use native.Mathlib.Omega.{arith}
use Rattle.numbers.specs.declared.verdict.Verdict.{Verdict}
use Rattle.numbers.specs.declared.verdict.Verdict.TheVariants.{Settled, PassesUsed, Diverged, DiodeCurrent, BudgetSpent, NoRoom, SineRefused}
use Rattle.numbers.specs.Verdicts.{number_of}
use Rattle.loops.specs.Laws.Loop.{either_same}
use Rattle.steps.specs.declared.Counters.{Counters}
use Rattle.steps.specs.declared.Job.{Job}
use Rattle.steps.specs.declared.Report.{Report}
use Rattle.steps.specs.declared.Report.TheVariants.{Yes, No, Error, Diode, Sine}
use Rattle.steps.specs.declared.Phase.TheVariants.{Dc, Transient}
use Rattle.steps.specs.Phases.{is_dc, is_transient}
use Rattle.steps.specs.Laws.Phases.{transient_not_dc, transient_phase}
use Rattle.steps.specs.Counters.{counted, ended, written, dc_verdict_of}
use Rattle.steps.specs.Control.{dc_over, dc_after}
use Rattle.steps.specs.Laws.Control.{Ends, settles, «runs-out», diverges}
use Rattle.machine.specs.State.{State, Attempt, Attempted, written_of}
use Rattle.machine.specs.Machine.{compared, tried, accepts, takes, took, tried_by, written_by, dc_pass, step_pass, pass}
use Rattle.machine.specs.Laws.Budget.{pass_dc, pass_step}

-- DC has ended by a solved pass: its verdict reads 0, 20 or 21
abbrev pub DcEnds : Counters → Type 0
DcEnds c = Ends false (dc_verdict_of c)

-- ---- DC's verdict says whether its vector is taken

-- 22, 24 and 26 are none of these
not_ended : (v : Verdict) → 22 ≤ number_of v → Ends false v → ⊥
not_ended v h settles = omega arith
not_ended v h «runs-out» = omega arith
not_ended v h diverges = omega arith

-- b says of the counters d whether DC has ended so
abbrev Says : Bool → Counters → Type 0
Says b d = ((b ≡ true) × DcEnds d) ⊎ ((b ≡ false) × (DcEnds d → ⊥))

module _ (j : Job) (c : Counters) (h : c.phase ≡ Dc) where
  over : (tr : Bool) (v : Verdict) → Ends false v → Says (not (is_dc (dc_over j.options tr v (counted c)).phase)) (dc_over j.options tr v (counted c))
  unfolding dc_over dc_verdict_of
  over true v e = inl (refl, e)
  over false v e = inl (refl, e)

  more : (b : Bool) → let d = cond b (dc_over j.options j.transient PassesUsed (counted c)) (counted c) in Says (not (is_dc d.phase)) d
  unfolding dc_verdict_of
  more true = over j.transient PassesUsed «runs-out»
  more false = rw h (inr (refl, not_ended BudgetSpent (omega arith)))

  dc_says : (r : Report) → Says (takes j c r) (dc_after j.options j.transient r c)
  unfolding takes dc_after dc_verdict_of
  dc_says Yes = rw (ap is_dc h) (over j.transient Settled settles)
  dc_says No = rw (ap is_dc h) (more (ltb j.options.itl1 (counted c).count))
  dc_says Error = rw (ap is_dc h) (over j.transient Diverged diverges)
  dc_says Diode = rw (ap is_dc h) (inr (refl, not_ended DiodeCurrent (omega arith)))
  dc_says Sine = rw (ap is_dc h) (inr (refl, not_ended SineRefused (omega arith)))

-- the first row does not change how DC reads
row_reads : (c : Counters) (v rows : List Float) → dc_verdict_of (cond (is_transient c.phase) (written_by c v rows) (written_of c rows)).counters ≡ dc_verdict_of c
unfolding dc_verdict_of written_by
row_reads c v rows = go (is_transient c.phase) refl (ltb c.rows (length rows / (length v + 1))) _
  where
    go : (b : Bool) → is_transient c.phase ≡ b → (r : Bool) (x : List Float)
        → dc_verdict_of (cond b (cond r (written_of (written c) x) (written_of (ended NoRoom c) rows)) (written_of c rows)).counters ≡ dc_verdict_of c
    go true e true x = refl
    go true e false x = rw (transient_phase c.phase e)
    go false e r x = refl

module _ (f : Attempt) (j : Job) (s : State) where
  -- what this pass's attempt gives
  abbrev pub attempted : Attempted
  attempted = f s.counters s.accepted s.buffers

  -- the memory is one of two
  by_takes : (b : Bool) → takes j s.counters (tried_by f j s).report ≡ b → (tried_by f j s).memory ≡ cond b attempted.taken attempted.memory
  unfolding took tried compared
  by_takes b e = rw e

  -- what holds of both holds of the memory after the pass
  pub holds_of_both : (P : List Float → Type 0) → P attempted.memory → P attempted.taken → P (tried_by f j s).memory
  holds_of_both P p q = go (takes j s.counters (tried_by f j s).report) refl
    where
      go : (b : Bool) → takes j s.counters (tried_by f j s).report ≡ b → P (tried_by f j s).memory
      go true e = subst P (sym (by_takes true e)) q
      go false e = subst P (sym (by_takes false e)) p

  -- where there is nothing to take, as in a circuit without inductors, a pass is as it was tried
  pub nothing_taken : attempted.taken ≡ attempted.memory → tried_by f j s ≡ tried f j s.counters s.accepted s.buffers
  unfolding took tried compared
  nothing_taken e = rw (e, either_same)

  -- ---- a step

  step_memory : (step_pass f j s).buffers.memory ≡ (tried_by f j s).memory
  unfolding step_pass
  step_memory = go (accepts (tried_by f j s).report) _ _ refl refl
    where
      go : (b : Bool) (x y : State) → x.buffers.memory ≡ (tried_by f j s).memory → y.buffers.memory ≡ (tried_by f j s).memory → (cond b x y).buffers.memory ≡ (tried_by f j s).memory
      go true x y p q = p
      go false x y p q = q

  module _ (h : s.counters.phase ≡ Transient) where
    by_accepts : (b : Bool) → accepts (tried_by f j s).report ≡ b → (pass f j s).buffers.memory ≡ cond b attempted.taken attempted.memory
    unfolding takes
    by_accepts b e =
        let n : s.counters.phase ≡ Dc → ⊥ = λ q. transient_not_dc (sym h ∙ q) in
        rw (pass_step f j s n h, step_memory) (by_takes b (rw (ap is_dc h) e))

    -- a step that is not accepted (it says "no", is cut or fails) leaves the memory as the attempt left it
    pub rejected_stays : accepts (tried_by f j s).report ≡ false → (pass f j s).buffers.memory ≡ attempted.memory
    rejected_stays = by_accepts false

    -- a step that is accepted leaves each inductor its new current, also where there is then no room for a row (25)
    pub accepted_takes : accepts (tried_by f j s).report ≡ true → (pass f j s).buffers.memory ≡ attempted.taken
    accepted_takes = by_accepts true

  -- ---- DC

  module _ (h : s.counters.phase ≡ Dc) where
    dc_memory : (pass f j s).buffers.memory ≡ (tried_by f j s).memory
    unfolding dc_pass
    dc_memory = rw (pass_dc f j s h)

    dc_reading : dc_verdict_of (pass f j s).counters ≡ dc_verdict_of (dc_after j.options j.transient (tried_by f j s).report s.counters)
    unfolding dc_pass
    dc_reading = rw (pass_dc f j s h) (row_reads _ _ _)

    says : Says (takes j s.counters (tried_by f j s).report) (dc_after j.options j.transient (tried_by f j s).report s.counters)
    says = dc_says j s.counters h (tried_by f j s).report

    -- a pass after which DC has ended with 0, 20 or 21 leaves each inductor its current in DC's vector
    pub dc_takes : DcEnds (pass f j s).counters → (pass f j s).buffers.memory ≡ attempted.taken
    dc_takes o = ⊎_elim (λ t. dc_memory ∙ by_takes true t.0) (λ t. absurd (t.1 (rw dc_reading at o))) says

    -- one after which DC goes on, or that fails (22, 26), leaves the memory as the attempt left it
    pub dc_stays : (DcEnds (pass f j s).counters → ⊥) → (pass f j s).buffers.memory ≡ attempted.memory
    dc_stays n = ⊎_elim (λ t. absurd (n (rw dc_reading t.1))) (λ t. dc_memory ∙ by_takes false t.0) says
