-- Laws of budgets, for every stamping and solving f: an ended run stays, budgets add up, and no pass changes the base. Clients cite all that is `pub`. Assumes nothing.
use Prim.Native.Nat.{ℕ, zero, suc, ◌+◌, ◌-◌, ◌<◌}
use Rattle.std.specs.Prelude.{◌≡◌, Bool, cond}
use Rattle.std.proofs.Math.Path.{refl, ap}
use Rattle.std.proofs.Common.{sym, ◌∙◌}
use Rattle.std.proofs.Math.Bool.{true, false}
use mathlib.Core.List.{List, [], ◌∷◌}
use native.Mathlib.Omega.{arith}
use Rattle.std.proofs.Math.Nat.{zero-add, suc-add}
use Rattle.steps.specs.declared.Phase.TheVariants.{Dc, Transient}
use Rattle.steps.specs.Phases.{is_dc, is_transient}
use Rattle.steps.specs.Laws.Phases.{ended_not_dc, ended_not_transient, ended_phase, not_dc, not_transient}
use Rattle.steps.specs.Counters.{going}
use Rattle.steps.specs.declared.Job.{Job}
use Rattle.machine.specs.State.{State, Attempt}
use Rattle.machine.specs.Machine.{tried_by, accepts, dc_pass, step_pass, pass, run_for, run_all}

-- the sum of budgets
abbrev pub total : List ℕ → ℕ
total [] = 0
total (b ∷ bs) = b + total bs

module _ (f : Attempt) (j : Job) where
  -- ---- a pass by its phase

  pub pass_dc : (s : State) → s.counters.phase ≡ Dc → pass f j s ≡ dc_pass f j s
  unfolding pass
  pass_dc s h = rw h

  pub pass_step : (s : State) → (s.counters.phase ≡ Dc → ⊥) → s.counters.phase ≡ Transient → pass f j s ≡ step_pass f j s
  unfolding pass
  pass_step s n h = rw h

  pub pass_ended : (s : State) → (s.counters.phase ≡ Dc → ⊥) → (s.counters.phase ≡ Transient → ⊥) → pass f j s ≡ s
  unfolding pass
  pass_ended s n h = rw (not_dc _ n, not_transient _ h)

  pub pass_stopped : (s : State) → going s.counters ≡ false → pass f j s ≡ s
  pass_stopped s h =
      let g = ended_phase s.counters.phase h in
      pass_ended s (λ e. ended_not_dc (sym g ∙ e)) (λ e. ended_not_transient (sym g ∙ e))

  -- ---- budgets

  -- an ended run stays
  pub run_stopped : (n : ℕ) (s : State) → going s.counters ≡ false → run_for f j n s ≡ s
  unfolding run_for
  run_stopped zero s h = refl
  run_stopped (suc n) s h = rw (pass_stopped s h) (run_stopped n s h)

  -- one pass, and the run of what is left
  pub run_step : (left : ℕ) (s : State) → 0 < left → run_for f j left s ≡ run_for f j (left - 1) (pass f j s)
  unfolding run_for
  run_step left s p =
      let e : left ≡ suc (left - 1) = omega arith in
      ap (λ (n : ℕ). run_for f j n s) e

  -- a budget of a and then one of b is one of a + b
  pub run_more : (a b : ℕ) (s : State) → run_for f j b (run_for f j a s) ≡ run_for f j (a + b) s
  unfolding run_for
  run_more zero b s = rw zero-add
  run_more (suc a) b s = rw suc-add (run_more a b (pass f j s))

  -- any number of budgets are one with their sum
  pub run_many : (bs : List ℕ) (s : State) → run_all f j bs s ≡ run_for f j (total bs) s
  unfolding run_for
  run_many [] s = refl
  run_many (b ∷ bs) s = run_many bs (run_for f j b s) ∙ run_more b (total bs) s

  -- ---- the base

  step_base : (s : State) → (step_pass f j s).buffers.base ≡ s.buffers.base
  unfolding step_pass
  step_base s = either (accepts (tried_by f j s).report) _ _ refl refl
    where
      either : (a : Bool) (x y : State) → x.buffers.base ≡ s.buffers.base → y.buffers.base ≡ s.buffers.base → (cond a x y).buffers.base ≡ s.buffers.base
      either true x y p q = p
      either false x y p q = q

  -- no pass changes the base matrix
  pub pass_base : (s : State) → (pass f j s).buffers.base ≡ s.buffers.base
  unfolding pass dc_pass
  pass_base s = go (is_dc s.counters.phase) (is_transient s.counters.phase)
    where
      go : (a b : Bool) → (cond a (dc_pass f j s) (cond b (step_pass f j s) s)).buffers.base ≡ s.buffers.base
      go true b = refl
      go false true = step_base s
      go false false = refl

  -- and so no run does
  pub run_base : (n : ℕ) (s : State) → (run_for f j n s).buffers.base ≡ s.buffers.base
  unfolding run_for
  run_base zero s = refl
  run_base (suc n) s = run_base n (pass f j s) ∙ pass_base s
