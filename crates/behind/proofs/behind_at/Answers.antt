-- `behind::behind_at` meets its contract: by what the record decodes to as a diode. Assumes nothing.
use Rattle.behind.specs.Behind.{behind_at}
use Rattle.behind.proofs.behind_at.Goals as goal

pub returns-in_default : goal.returns-in_default
unfolding behind_at
returns-in_default c = rw (← rw c.number.ensures at c.record_of.ensures, c.in_default.is)

pub returns : goal.returns
unfolding behind_at
returns c = rw (← rw c.number.ensures at c.record_of.ensures, c.in-Ok.is, c.diode_behind.ensures, c.number_at.ensures)
