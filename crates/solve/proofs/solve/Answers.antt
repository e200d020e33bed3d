-- `solve::solve` meets its contract. Assumes nothing.
use Rattle.std.proofs.Common.{arith}
use Rattle.std.proofs.lemmas.Grind.{common_steps}
use Rattle.solve.specs.Solve.{solve_of}
use Rattle.solve.specs.Laws.Solve.{solves}
use Rattle.solve.proofs.solve.Goals as goal

pub returns-in_err-refusal : goal.returns-in_err-refusal
unfolding solve_of
returns-in_err-refusal c = grind (arith, common_steps)

pub returns : goal.returns
returns c = grind (arith, common_steps, solves)
