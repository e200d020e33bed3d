-- `mean::limbs::part` meets its contract.
use Rattle.std.proofs.Common.{◌+◌, ◌*◌, ◌/◌, ◌%◌, ◌<◌, mod-lt, arith}
use Rattle.mean.proofs.Words.{half, quotient_few, dividend_fits, joined}
use Rattle.mean.proofs.limbs.part.Goals as goal

first-few : (c : goal.Start) → (c.args.left * half + c.args.x / half) / c.args.d < half
first-few c = quotient_few c.args.left (c.args.x / half) c.args.d c.requires.0 (omega arith)

second-few : (c : goal.Start) → ((c.args.left * half + c.args.x / half) % c.args.d * half + c.args.x % half) / c.args.d < half
second-few c = quotient_few ((c.args.left * half + c.args.x / half) % c.args.d) (c.args.x % half) c.args.d (mod-lt _ (omega arith)) (omega arith)

pub overflow_mul-low : goal.overflow_mul-low
overflow_mul-low c = let m : (c.args.left * half + c.args.x / half) % c.args.d < c.args.d = mod-lt _ (omega arith) in record { fits = omega arith }

pub overflow_add-low : goal.overflow_add-low
overflow_add-low c = record { fits = dividend_fits ((c.args.left * half + c.args.x / half) % c.args.d) (c.args.x % half) c.args.d (mod-lt _ (omega arith)) c.requires.1 (omega arith) }

pub overflow_mul-result : goal.overflow_mul-result
overflow_mul-result c = let m = first-few c in record { fits = omega arith }

pub overflow_add-result : goal.overflow_add-result
overflow_add-result c = let m = first-few c in let n = second-few c in record { fits = omega arith }

pub returns : goal.returns
returns c = (joined c.args.left c.args.x c.args.d, mod-lt _ (omega arith))
