-- `models::diode::floor` meets its contract. Assumes nothing.
use Rattle.models.specs.Diode.{floored}
use Rattle.models.proofs.diode.floor.Goals as goal

pub returns-then-g-gmin : goal.returns-then-g-gmin
unfolding floored
returns-then-g-gmin c = rw c.if-g-gmin.true

pub returns-else-g-gmin : goal.returns-else-g-gmin
unfolding floored
returns-else-g-gmin c = rw c.if-g-gmin.false
