-- `solve::elimination::reduce` meets its contract. Assumes nothing.
use Rattle.solve.specs.Solve.{reduced}
use Rattle.solve.proofs.elimination.reduce.Goals as goal

pub returns-then-m-to : goal.returns-then-m-to
unfolding reduced
returns-then-m-to g c = rw c.if-m-to.true

pub returns-then-this-ne0 : goal.returns-then-this-ne0
unfolding reduced
returns-then-this-ne0 g c = rw c.if-m-to.false c.less_each.ensures

pub returns-else-this-ne0 : goal.returns-else-this-ne0
unfolding reduced
returns-else-this-ne0 g c = rw c.if-m-to.false c.less_scaled.ensures
