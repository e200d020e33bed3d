-- `solve::index_of_next_abs` meets its contract. Assumes nothing.
use Rattle.std.proofs.Common.{arith}
use Rattle.std.proofs.lemmas.Grind.{common_steps}
use Rattle.solve.specs.Solve.{next_abs, index_of_next_abs}
use Rattle.solve.proofs.index_of_next_abs.Goals as goal

pub returns-then-n-gt-UNKNOWNS : goal.returns-then-n-gt-UNKNOWNS
unfolding next_abs
returns-then-n-gt-UNKNOWNS c = grind (arith, common_steps)

pub returns : goal.returns
unfolding next_abs index_of_next_abs
returns c = grind (arith, common_steps)
