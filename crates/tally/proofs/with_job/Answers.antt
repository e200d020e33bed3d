-- `tally::with_job` meets its contract.
use Rattle.std.proofs.Common.{arith}
use Rattle.std.proofs.lemmas.Bool.Decides.{nat_tests}
use Rattle.tally.specs.Tally.{with_job}
use Rattle.tally.proofs.with_job.Goals as goal

pub returns-then-r-eq0 : goal.returns-then-r-eq0
unfolding with_job
returns-then-r-eq0 c = grind (arith, nat_tests)

pub returns : goal.returns
unfolding with_job
returns c = grind (arith, nat_tests)
