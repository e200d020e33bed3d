-- `behind::diode_behind` meets its contract: a diode is asked, and no other kind is behind. Assumes nothing.
use mathlib.Core.Path.{sym}
use Rattle.groups.proofs.Tags.{not_diode}
use Rattle.behind.specs.Behind.{diode_behind}
use Rattle.behind.specs.Laws.Quiet.{quiet_behind}
use Rattle.behind.proofs.diode_behind.Goals as goal

pub returns-in_default : goal.returns-in_default
returns-in_default c = sym (quiet_behind _ _ _ _ _ (not_diode _ c.in_default.not-D))

pub returns : goal.returns
unfolding diode_behind
returns c = rw (c.in-D.is, c.caught_up.ensures, c.across.ensures)
