-- `exact::within` meets its contract.
use Rattle.std.proofs.Common.{arith}
use Rattle.std.proofs.lemmas.Bool.Decides.{nat_tests}
use Rattle.exact.specs.Kept.{within_of}
use Rattle.exact.proofs.within.Goals as goal

pub returns-then-reaches : goal.returns-then-reaches
unfolding within_of
returns-then-reaches c = grind (arith, nat_tests)

pub returns-else-reaches : goal.returns-else-reaches
unfolding within_of
returns-else-reaches c = grind (arith, nat_tests)
