-- `passes::follow` meets its contract: by the phase. Assumes nothing.
use mathlib.Core.Path.{◌≡◌, ap}
use mathlib.Core.Bool.{cond, false}
use mathlib.Core.Logic.{⊎_elim}
use mathlib.Core.List.{List}
use lib.ListN.{length}
use lib.Ieee.{Float}
use Rattle.loops.specs.Laws.Loop.{copied_same}
use Rattle.steps.specs.declared.Counters.{Counters}
use Rattle.steps.specs.declared.Job.{Job}
use Rattle.steps.specs.declared.Report.{Report}
use Rattle.steps.specs.declared.Phase.TheVariants.{Dc}
use Rattle.steps.specs.Phases.{is_dc}
use Rattle.machine.specs.State.{Written, written_of}
use Rattle.machine.specs.Machine.{accepts, accepted_by}
use Rattle.passes.specs.Done.{dc_done, step_done, aftermath_of, aftermath}
use Rattle.passes.proofs.follow.Goals as goal

-- what is accepted and what is written, together
module _ (j : Job) (r : Report) (c d : Counters) (a a' v rows rows' : List Float) (e : a' ≡ accepted_by r c a v) where
  in-dc : c.phase ≡ Dc → written_of d rows' ≡ dc_done j r c v rows → aftermath_of d a' rows' ≡ aftermath j r c a v rows
  unfolding aftermath accepted_by
  in-dc h q = rw (e, ap is_dc h) (ap (λ (w : Written). aftermath_of w.counters a w.rows) q)

  in_step : length v ≡ length a → is_dc c.phase ≡ false → written_of d rows' ≡ step_done j r c v rows → aftermath_of d a' rows' ≡ aftermath j r c a v rows
  unfolding aftermath accepted_by
  in_step l h q = rw (e, h, copied_same v a l) (ap (λ (w : Written). aftermath_of w.counters (cond (accepts r) v a) w.rows) q)

pub returns-in-Dc : goal.returns-in-Dc
returns-in-Dc c = in-dc _ _ _ _ _ _ _ _ _ c.accept.ensures c.in-Dc.is c.dc_done.ensures

pub returns-in-Transient : goal.returns-in-Transient
returns-in-Transient c = in_step _ _ _ _ _ _ _ _ _ c.accept.ensures c.requires (⊎_elim (ap is_dc) (ap is_dc) c.in-Transient.is) c.step_done.ensures
