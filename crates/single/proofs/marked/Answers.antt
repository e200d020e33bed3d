-- `single::marked` meets its contract.
use mathlib.Core.Path.{sym, ap}
use Rattle.single.specs.Single.{mark_of}
use Rattle.single.proofs.marked.Goals as goal

pub returns-in-Refused : goal.returns-in-Refused
unfolding mark_of
returns-in-Refused c = ap mark_of (sym c.in-Refused.is)

pub returns-in-Ended : goal.returns-in-Ended
unfolding mark_of
returns-in-Ended c = rw c.number.ensures (ap mark_of (sym c.in-Ended.is))
