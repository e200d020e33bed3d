-- `exact::check` meets its contract.
use Rattle.std.proofs.Common.{arith}
use Rattle.std.proofs.lemmas.Bool.Decides.{nat_tests}
use Rattle.exact.specs.Kept.{check_of}
use Rattle.exact.proofs.check.Goals as goal

pub returns-then-plus-ne-SUM_LIMBS : goal.returns-then-plus-ne-SUM_LIMBS
unfolding check_of
returns-then-plus-ne-SUM_LIMBS c = grind (arith, nat_tests)

pub returns-then-not-finite : goal.returns-then-not-finite
unfolding check_of
returns-then-not-finite c = grind (arith, nat_tests)

pub returns-then-not-has_room : goal.returns-then-not-has_room
unfolding check_of
returns-then-not-has_room c = grind (arith, nat_tests)

pub returns : goal.returns
unfolding check_of
returns c = grind (arith, nat_tests)
