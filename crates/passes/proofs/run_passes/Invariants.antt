-- What the loop of `passes::run_passes` keeps true.
use Prim.Native.Nat.{ℕ}
use mathlib.Core.Path.{◌≡◌}
use mathlib.Core.Bool.{Bool, true}
use mathlib.Core.List.{List}
use lib.ListN.{length}
use lib.Ieee.{Float}
use Rattle.steps.specs.declared.Counters.{Counters}
use Rattle.steps.specs.Counters.{going}
use Rattle.machine.specs.State.{State, state_of}
use Rattle.machine.specs.Machine.{run_for}
use Rattle.passes.specs.declared.Buffers.{Buffers as Lent}
use Rattle.passes.specs.Lent.{circuit_in, buffers_in, Kept}
use Rattle.passes.specs.Attempt.{Circuit, attempt_of}
use Rattle.passes.specs.Again.{alike, Holds}
use Rattle.passes.proofs.run_passes.Given as goal

-- the next pass of a live run finds what the last one left
abbrev pub Ready : Circuit → Bool → Counters → List Float → List Float → List Float → List Float → List Float → List Float → Type 0
Ready k known c a base held s v y = known ≡ true → going c ≡ true → alike c ≡ true → Holds k c a base held s v y

-- the buffers are kept, the base as it was, and what is left to run from here is the whole
pub record Inv (k : Circuit) (t₀ : State) (h₀ h : List Float) (w₀ w : Lent) (t : State) (left : ℕ) (known : Bool) : Type 0 where
  pub la : length t.accepted ≡ length t₀.accepted
  pub lh : length h ≡ length h₀
  pub lr : length t.buffers.rows ≡ length t₀.buffers.rows
  pub kept : Kept w w₀
  pub base : w.base.now ≡ w₀.base.now
  pub ready : Ready k known t.counters t.accepted w.base.now h w.system.now w.vector.now w.memory.now
  pub same : run_for (attempt_of k) k.job left t ≡ run_for (attempt_of k) k.job k.job.options.budget t₀

abbrev pub invariant-loop-left : goal.invariant-loop-left
invariant-loop-left l =
    Inv (circuit_in l.k l.initial.w) (state_of l.initial.s l.initial.accepted (buffers_in l.initial.w l.initial.rows)) l.initial.held l.held l.initial.w l.w
    (state_of l.s l.accepted (buffers_in l.w l.rows)) l.left l.known

abbrev pub decreases-loop-left : goal.decreases-loop-left
decreases-loop-left l = l.left
