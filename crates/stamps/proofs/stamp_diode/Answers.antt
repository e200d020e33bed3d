-- `stamps::stamp_diode` meets its contract: one list of writes after the other is the joined list. Assumes nothing.
use mathlib.Core.Path.{sym, ap, ◌∙◌}
use Rattle.stamps.specs.Write.{stamped}
use Rattle.stamps.specs.Kinds.{diode_writes}
use Rattle.stamps.specs.Laws.Write.{joined}
use Rattle.stamps.proofs.stamp_diode.Goals as goal

pub returns : goal.returns
unfolding diode_writes
returns c =
    c.stamp_resistor.ensures
    ∙ (ap (stamped _ _) c.stamp_current.ensures ∙ sym (joined _ _ _ _))
