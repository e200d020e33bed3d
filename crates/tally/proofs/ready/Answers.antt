-- `tally::ready` meets its contract.
use Rattle.std.proofs.Common.{arith}
use Rattle.std.proofs.lemmas.Bool.Decides.{nat_tests}
use Rattle.tally.specs.Tally.{ready}
use Rattle.tally.proofs.ready.Goals as goal

pub returns-then-minus-eq-SUM_LIMBS : goal.returns-then-minus-eq-SUM_LIMBS
unfolding ready
returns-then-minus-eq-SUM_LIMBS c = grind (arith, nat_tests)

pub returns-else-minus-eq-SUM_LIMBS : goal.returns-else-minus-eq-SUM_LIMBS
unfolding ready
returns-else-minus-eq-SUM_LIMBS c = grind (arith, nat_tests)
