-- `tally::count_to` meets its contract.
use Rattle.std.proofs.Common.{arith}
use Rattle.std.proofs.lemmas.Bool.Decides.{nat_tests}
use Rattle.tally.specs.Tally.{counts_to}
use Rattle.tally.proofs.count_to.Goals as goal

pub returns-then-kinds-counts : goal.returns-then-kinds-counts
unfolding counts_to
returns-then-kinds-counts c = grind (arith, nat_tests)

pub returns-else-jobs-numbers : goal.returns-else-jobs-numbers
unfolding counts_to
returns-else-jobs-numbers c = grind (arith, nat_tests)
