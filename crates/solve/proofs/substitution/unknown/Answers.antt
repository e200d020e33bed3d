-- `solve::substitution::unknown` meets its contract. Assumes nothing.
use Rattle.solve.specs.Solve.{unknown}
use Rattle.solve.proofs.substitution.unknown.Goals as goal

pub returns : goal.returns
unfolding unknown
returns c = rw (← c.row_start-start.ensures.0, c.dot-s.ensures)
