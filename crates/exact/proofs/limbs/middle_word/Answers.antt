-- `exact::limbs::middle_word` meets its contract.
use Rattle.std.proofs.Common.{◌+◌, arith}
use Rattle.exact.proofs.Words.{shared}
use Rattle.exact.proofs.limbs.middle_word.Goals as goal

pub overflow_add-result : goal.overflow_add-result
overflow_add-result c = omega (arith, shared c.args.low c.args.high c.args.s (omega arith) (omega arith))

pub returns : goal.returns
returns c = λ i. c.high_word.ensures i + c.low_word.ensures i
