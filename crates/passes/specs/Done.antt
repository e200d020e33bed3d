-- What follows the attempt of a pass, from the report on it: the counters, and the rows with them. Clients of the crate need none of it: the contracts of its inner functions cite it.
use Rattle.std.specs.Prelude.{cond, List, eqb, Float}
use Rattle.steps.specs.declared.Counters.{Counters}
use Rattle.steps.specs.declared.Job.{Job}
use Rattle.steps.specs.declared.Report.{Report}
use Rattle.steps.specs.Phases.{is_dc, is_transient}
use Rattle.steps.specs.Control.{dc_after, step_after}
use Rattle.machine.specs.State.{Written, written_of}
use Rattle.machine.specs.Machine.{written_by, landed, accepts}

-- DC: where the transient begins, the first row is written
unfoldable pub dc_done : Job → Report → Counters → List Float → List Float → Written
dc_done j r c v rows =
    let d = dc_after j.options j.transient r c in
    cond (is_transient d.phase) (written_by d v rows) (written_of d rows)

-- a step: where it is accepted, the new time may get a row
unfoldable pub step_done : Job → Report → Counters → List Float → List Float → Written
step_done j r c v rows =
    let d = step_after j.options r c in
    cond (accepts r) (landed j.options d v rows) (written_of d rows)

-- the counters, the accepted vector and the rows after a pass
pub record Aftermath : Type 0 where
  pub counters : Counters
  pub accepted : List Float
  pub rows : List Float

abbrev pub aftermath_of : Counters → List Float → List Float → Aftermath
aftermath_of c a rows = record { counters = c; accepted = a; rows = rows }

-- a pass of DC accepts nothing; an accepted step's vector is the new accepted one
unfoldable pub aftermath : Job → Report → Counters → List Float → List Float → List Float → Aftermath
aftermath j r c a v rows =
    let d = dc_done j r c v rows in
    let s = step_done j r c v rows in
    cond (is_dc c.phase) (aftermath_of d.counters a d.rows) (aftermath_of s.counters (cond (accepts r) v a) s.rows)
