-- `functions::reduce::small` meets its contract. Assumes nothing.
use Rattle.std.proofs.Common.{refl, arith}
use Rattle.functions.proofs.Quotients.{nothing, some}
use Rattle.functions.proofs.reduce.small.Goals as goal

pub returns-then-field-lt957 : goal.returns-then-field-lt957
returns-then-field-lt957 c = (λ n d dp e. nothing n d c.args.field c.args.digits dp (omega arith) c.requires.1 e, refl, refl)

pub returns : goal.returns
returns c = (λ n d dp e. some n d c.args.field c.args.digits dp (omega arith) c.requires.0 c.requires.1 e, refl, refl)
