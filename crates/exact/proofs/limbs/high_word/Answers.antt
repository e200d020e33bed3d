-- `exact::limbs::high_word` meets its contract.
use Rattle.exact.proofs.Words.{high_word}
use Rattle.exact.proofs.limbs.high_word.Goals as goal

pub returns : goal.returns
returns c = high_word c.args.p c.args.s c.requires
