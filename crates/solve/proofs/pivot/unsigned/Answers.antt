-- `solve::pivot::unsigned` meets its contract. Assumes nothing.
use Rattle.solve.specs.Inner.{unsigned_of}
use Rattle.solve.proofs.pivot.unsigned.Goals as goal

pub returns-then-x : goal.returns-then-x
unfolding unsigned_of
returns-then-x c = rw c.if-x.true

pub returns-else-x : goal.returns-else-x
unfolding unsigned_of
returns-else-x c = rw c.if-x.false
