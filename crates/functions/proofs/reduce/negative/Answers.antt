-- `functions::reduce::negative` meets its contract. Assumes nothing.
use Rattle.std.proofs.Common.{T, sym, subst}
use Rattle.functions.specs.Laws.Fields.{number, at_fields}
use Rattle.functions.proofs.reduce.negative.Goals as goal

pub float_to_bits-result : goal.float_to_bits-result
float_to_bits-result c = number c.args.x c.requires

pub returns : goal.returns
returns c = sym (at_fields c.args.x (subst T (sym c.well_formed.0.1) tt) c.requires).0
