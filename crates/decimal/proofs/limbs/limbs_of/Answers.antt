-- `decimal::limbs::limbs_of` meets its contract.
use lib.Dec.{lit<}
use native.Mathlib.Omega.{arith}
use Rattle.std.proofs.Common.{refl, replicate}
use Rattle.decimal.specs.Limbs.{value}
use Rattle.decimal.proofs.Value.{few_none}
use Rattle.decimal.proofs.Powers.{first_two}
use Rattle.decimal.proofs.limbs.limbs_of.Goals as goal

pub returns : goal.returns
unfolding value
returns c = first_two 36 c.args.a (replicate 36 0) (lit< tt) (omega arith) (record { few = few_none 36; limbs = refl; is = refl })
