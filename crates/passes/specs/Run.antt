-- The run of a budget over lent buffers, at the real stamping and solving. Clients cite run_on and Scratch.
use Rattle.std.specs.Prelude.{ℕ, ◌≡◌, Bool, false, cond, List, length, Float}
use Rattle.convergence.specs.Convergence.{convergence_of}
use Rattle.solve.specs.Solve.{solution}
use Rattle.steps.specs.declared.Job.{Job}
use Rattle.steps.specs.declared.Report.{Report}
use Rattle.steps.specs.Control.{report_of}
use Rattle.machine.specs.State.{State}
use Rattle.machine.specs.Machine.{before, run_for}
use Rattle.passes.specs.Attempt.{Circuit, attempt_of}
use Rattle.passes.specs.Sized.{fits}

-- the budget's passes, where the buffers' lengths fit, with an elimination matrix of so many numbers; else nothing happens
unfoldable pub run_on : ℕ → Circuit → State → State
run_on elimination k s =
    cond (fits k.order (length s.accepted) (length s.buffers.base) elimination (length s.buffers.system))
    (run_for (attempt_of k) k.job k.job.options.budget s)
    s

-- the elimination matrix, before and after a run, is scratch; but where the lengths do not fit, nothing happens to it either
pub record Scratch (k : Circuit) (s : State) (old new : List Float) : Type 0 where
  pub kept : fits k.order (length s.accepted) (length s.buffers.base) (length old) (length s.buffers.system) ≡ false → new ≡ old

-- the solved vector, and the report on it
pub record Renewed : Type 0 where
  pub report : Report
  pub vector : List Float

abbrev pub renewed_of : Report → List Float → Renewed
renewed_of r v = record { report = r; vector = v }

-- a whole system solved, and compared with what stood before
unfoldable pub renewed : Job → Bool → List Float → List Float → Renewed
renewed j first m v = renewed_of (report_of (convergence_of (solution (length v) m) (before first v) j.nodes j.options)) (solution (length v) m)
