-- `tally::holds` meets its contract.
use Rattle.std.proofs.Common.{arith}
use Rattle.std.proofs.lemmas.Bool.Decides.{nat_tests}
use Rattle.tally.specs.Tally.{holds_jobs}
use Rattle.tally.proofs.holds.Goals as goal

pub returns-then-jobs-numbers : goal.returns-then-jobs-numbers
unfolding holds_jobs
returns-then-jobs-numbers c = grind (arith, nat_tests)

pub returns-else-jobs-numbers : goal.returns-else-jobs-numbers
unfolding holds_jobs
returns-else-jobs-numbers c = grind (arith, nat_tests)
