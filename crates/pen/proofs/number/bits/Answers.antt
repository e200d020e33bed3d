use Rattle.std.specs.Prelude.{T}
use Rattle.std.specs.Float.Ieee.{ne, to_bits}
use Rattle.std.specs.Float.Ieee.Compare.{differs_from_itself}
use Rattle.functions.specs.Laws.Fields.{no_nan_of}
use Rattle.pen.proofs.number.bits.Goals as goal

pub returns-then-x : goal.returns-then-x
unfolding to_bits
returns-then-x c = let t : T (ne c.args.x c.args.x) = rw c.if-x.true tt in rw (differs_from_itself c.args.x t)

pub float_to_bits-result : goal.float_to_bits-result
float_to_bits-result c = no_nan_of c.args.x c.if-x.false
