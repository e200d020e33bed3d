-- `solve::run` meets its contract. Assumes nothing.
use Rattle.solve.specs.Solve.{solution}
use Rattle.solve.proofs.run.Goals as goal

pub returns : goal.returns
unfolding solution
returns c = (c.eliminate.ensures, rw (← c.eliminate.ensures) c.substitute.ensures)
