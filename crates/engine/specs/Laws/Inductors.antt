-- What is promised of inductors, pass by pass of a run at its real stamping and solving: a run begins with a current of 0.0; where a step is accepted the current is the formula's, where DC has ended with 0, 20 or 21 it is the
-- unknown of DC's vector, and in every other pass it stays, so also in a step that is rejected. In a circuit without inductors a pass takes nothing; that it stamps what it stamped before there were any is `as_before` of groups,
-- that its sheet is checked as before `without_inductors` of sheet. Clients cite all that is `pub`. Assumes nothing.
use Rattle.std.specs.Prelude.{ℕ, zero, suc, ◌<◌, ◌≡◌, Bool, cond, eqb, length, set, Float}
use Rattle.std.proofs.Math.Path.{refl, ap}
use Rattle.std.proofs.Common.{sym, subst, ◌∙◌, not-suc-le-zero, arith, eqb-true, eq-eqb, ne_eqb, length-set, get_or-set_same, get_or-set_other}
use Rattle.std.proofs.Math.Bool.{true, false}
use Rattle.std.proofs.lemmas.Bool.{false≢true, eqb-false}
use mathlib.Core.List.{List}
use Rattle.std.proofs.Math.ListN.{get_or}
use Rattle.std.specs.Float.{nan}
use Rattle.numbers.specs.Kinds.{inductor}
use Rattle.num.specs.Floats.{nought}
use Rattle.loops.specs.Loop.{turns}
use Rattle.loops.specs.Laws.Loop.{turns_inv}
use Rattle.sheet.specs.declared.NodeId.{NodeId}
use Rattle.sheet.specs.declared.SourceId.{SourceId}
use Rattle.sheet.specs.declared.Element.TheVariants.{L}
use Rattle.std.specs.declared.result.Result.TheVariants.{Ok, Err}
use Rattle.sheet.specs.Record.{kind_at}
use Rattle.sheet.specs.Kind.{kind_of}
use Rattle.sheet.specs.Laws.Kind.{kind_at_lem}
use Rattle.sheet.specs.Row.{row_of}
use Rattle.sheet.specs.Check.{records_of}
use Rattle.sheet.specs.Sharing.{inductor_among}
use Rattle.models.specs.Inductor.{current_after}
use Rattle.groups.specs.Records.{element_at, across}
use Rattle.groups.specs.Storage.{current_in}
use Rattle.groups.specs.Laws.Stamping.{fine, memory_stays}
use Rattle.groups.specs.Laws.Storage.{no_diode, taken_here, nothing_taken}
use Rattle.steps.specs.declared.Phase.TheVariants.{Dc, Transient}
use Rattle.steps.specs.Phases.{is_dc}
use Rattle.steps.specs.Laws.Phases.{transient_not_dc}
use Rattle.machine.specs.State.{State, Attempted}
use Rattle.machine.specs.Machine.{compared, tried, accepts, took, tried_by, dc_pass, step_pass, pass}
use Rattle.machine.specs.Laws.Budget.{pass_dc, pass_step}
use Rattle.machine.proofs.Laws.Taken as machine
use Rattle.machine.proofs.Laws.Taken.{DcEnds}
use Rattle.passes.specs.Attempt.{Circuit, pass_of, attempt_of}
use Rattle.passes.specs.Laws.Attempt.{attempt_memory}
use Rattle.engine.specs.Begin.{remembers, forget_at, forgotten}

-- the vector after a pass is the one that was solved
module _ (k : Circuit) (s : State) where
  abbrev solved : Attempted
  solved = attempt_of k s.counters s.accepted s.buffers

  abbrev passed : State
  passed = pass (attempt_of k) k.job s

  step_vector : (step_pass (attempt_of k) k.job s).buffers.vector ≡ solved.vector
  unfolding step_pass took tried compared
  step_vector = go (accepts (tried_by (attempt_of k) k.job s).report) _ _ refl refl
    where
      go : (b : Bool) (x y : State) → x.buffers.vector ≡ solved.vector → y.buffers.vector ≡ solved.vector → (cond b x y).buffers.vector ≡ solved.vector
      go true x y p q = p
      go false x y p q = q

  dc_vector : (dc_pass (attempt_of k) k.job s).buffers.vector ≡ solved.vector
  unfolding dc_pass took tried compared
  dc_vector = refl

  -- ---- the inductor of record i

  module _ (i : ℕ) (a b : NodeId) (henries : Float) (n : SourceId) (here : element_at k.sheet i ≡ Ok (L a b henries n)) where
    abbrev before : Float
    before = get_or s.buffers.memory i nan

    -- an attempt leaves its current
    attempt_leaves : get_or solved.memory i nan ≡ before
    unfolding kind_of
    attempt_leaves =
        let o = k.job.options in
        let p = pass_of k.job k.order s.counters in
        let x = s.buffers in
        ap (λ (y : List Float). get_or y i nan) (attempt_memory k s.counters s.accepted x)
        ∙ memory_stays o p k.sheet k.points x.base s.accepted x.vector x.memory x.base i (λ h. no_diode (sym (kind_at_lem k.sheet i (L a b henries n) here) ∙ h))

    -- a step that is not accepted, whether it goes on, is cut or ends the run, moves nothing
    pub rejected_keeps : s.counters.phase ≡ Transient → accepts (tried_by (attempt_of k) k.job s).report ≡ false → get_or passed.buffers.memory i nan ≡ before
    rejected_keeps h r = ap (λ (y : List Float). get_or y i nan) (machine.rejected_stays (attempt_of k) k.job s h r) ∙ attempt_leaves

    -- nor does a pass of DC after which DC goes on or has failed (22, 26)
    pub dc_keeps : s.counters.phase ≡ Dc → (DcEnds passed.counters → ⊥) → get_or passed.buffers.memory i nan ≡ before
    dc_keeps h r = ap (λ (y : List Float). get_or y i nan) (machine.dc_stays (attempt_of k) k.job s h r) ∙ attempt_leaves

    module _ (room : i < records_of k.sheet) (lent : i < length s.buffers.memory) where
      long : length solved.memory ≡ length s.buffers.memory
      long =
          let p = pass_of k.job k.order s.counters in
          let x = s.buffers in
          ap length (attempt_memory k s.counters s.accepted x)
          ∙ (fine k.job.options p k.sheet k.points x.base s.accepted x.vector x.memory x.base).memory_length

      -- what it takes, where the vector is taken
      takes_its : get_or solved.taken i nan ≡ current_in (pass_of k.job k.order s.counters) solved.vector a.0 b.0 henries n before
      unfolding attempt_of
      takes_its =
          taken_here (pass_of k.job k.order s.counters) k.sheet solved.vector i a b henries n here solved.memory room (omega (arith, long, lent))
          ∙ ap (current_in (pass_of k.job k.order s.counters) solved.vector a.0 b.0 henries n) attempt_leaves

      -- an accepted step: the conductance, step over henries, times the new voltage plus the old current; the step is the one with which the pass began, so before it is doubled
      pub accepted_current : s.counters.phase ≡ Transient → accepts (tried_by (attempt_of k) k.job s).report ≡ true
          → get_or passed.buffers.memory i nan ≡ current_after henries s.counters.step (across passed.buffers.vector a.0 b.0) before
      unfolding current_in
      accepted_current h r =
          let t : s.counters.phase ≡ Dc → ⊥ = λ q. transient_not_dc (sym h ∙ q) in
          let v : passed.buffers.vector ≡ solved.vector = ap (λ (x : State). x.buffers.vector) (pass_step (attempt_of k) k.job s t h) ∙ step_vector in
          ap (λ (y : List Float). get_or y i nan) (machine.accepted_takes (attempt_of k) k.job s h r)
          ∙ rw v (rw (ap is_dc h) at takes_its)

      -- DC that has ended with 0, 20 or 21: the unknown of its row, whatever number that is
      pub dc_current : s.counters.phase ≡ Dc → DcEnds passed.counters → get_or passed.buffers.memory i nan ≡ get_or passed.buffers.vector (row_of k.job.nodes n) nan
      unfolding current_in
      dc_current h r =
          let v : passed.buffers.vector ≡ solved.vector = ap (λ (x : State). x.buffers.vector) (pass_dc (attempt_of k) k.job s h) ∙ dc_vector in
          ap (λ (y : List Float). get_or y i nan) (machine.dc_takes (attempt_of k) k.job s h r)
          ∙ rw v (rw (ap is_dc h) at takes_its)

  -- ---- a circuit without inductors

  none_taken : inductor_among k.sheet (records_of k.sheet) ≡ false → solved.taken ≡ solved.memory
  unfolding attempt_of
  none_taken h = nothing_taken (pass_of k.job k.order s.counters) k.sheet solved.vector solved.memory h

  -- a pass takes nothing: it is the attempt with its report, as before there were inductors
  pub plain_pass : inductor_among k.sheet (records_of k.sheet) ≡ false → tried_by (attempt_of k) k.job s ≡ tried (attempt_of k) k.job s.counters s.accepted s.buffers
  plain_pass h = machine.nothing_taken (attempt_of k) k.job s (none_taken h)

-- ---- as a run begins

-- the first k records put to 0.0 what they remember
module _ (sheet : List ℕ) (i : ℕ) (kind : kind_at sheet i ≡ inductor) where
  forgets : (b : Bool) (y : List Float) → remembers (kind_at sheet i) ≡ b → i < length y → get_or (cond b (set y i nought) y) i nan ≡ nought
  forgets true y e l = get_or-set_same y i nought nan l
  forgets false y e l = absurd (false≢true (sym e ∙ rw kind))

  long_still : (k : ℕ) (y : List Float) → length (turns k (forget_at sheet) y) ≡ length y
  long_still k y = turns_inv (λ (z : List Float). length z ≡ length y) (forget_at sheet) k y refl (λ j l z h. go (remembers (kind_at sheet j)) j z h)
    where
      go : (b : Bool) (j : ℕ) (z : List Float) → length z ≡ length y → length (cond b (set z j nought) z) ≡ length y
      go true j z h = length-set z j nought ∙ h
      go false j z h = h

  zero_there : (k : ℕ) (y : List Float) → i < length y → i < k → get_or (turns k (forget_at sheet) y) i nan ≡ nought
  zero_there zero y l h = absurd (not-suc-le-zero h)
  zero_there (suc k) y l h = by_place (zero_there k y l) (eqb i k) refl (remembers (kind_at sheet k)) refl
    where
      z : List Float
      z = turns k (forget_at sheet) y

      by_place : (i < k → get_or z i nan ≡ nought) → (q : Bool) → eqb i k ≡ q → (b : Bool) → remembers (kind_at sheet k) ≡ b → get_or (cond b (set z k nought) z) i nan ≡ nought
      by_place more true e b f =
          let p : i ≡ k = eqb-true i k e in
          subst (λ (n : ℕ). get_or (cond b (set z n nought) z) i nan ≡ nought) p (forgets b z (ap (λ (n : ℕ). remembers (kind_at sheet n)) p ∙ f) (rw (long_still k y) l))
      by_place more false e true f = get_or-set_other z k i nought nan (eqb-false i k e) ∙ more (omega (arith, h, eqb-false i k e))
      by_place more false e false f = more (omega (arith, h, eqb-false i k e))

  -- whatever the caller left in its place, a run begins with a current of 0.0
  pub begins_at_zero : (y : List Float) → i < length y → get_or (forgotten sheet y) i nan ≡ nought
  unfolding forgotten
  begins_at_zero y l = zero_there (length y) y l l
