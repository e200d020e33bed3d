-- `exact::limbs::add_word` meets its contract.
use Rattle.std.specs.Int.{from_bool}
use Rattle.exact.proofs.Carry.{stored}
use Rattle.exact.proofs.limbs.add_word.Goals as goal

pub returns : goal.returns
returns c = let r = c.carrying_add-sum.result in stored c.args.limbs.now c.args.at c.args.word (from_bool c.args.carry) r.0 (from_bool r.1) c.requires c.carrying_add-sum.ensures
