-- `groups::complete` meets its contract: one group after the other. Assumes nothing.
use Rattle.groups.specs.Stamping.{completed}
use Rattle.groups.proofs.complete.Goals as goal

pub returns : goal.returns
unfolding completed
returns c = rw (← c.stamp_dependent.ensures) c.stamp_storage.ensures
