-- What does not differ from itself is no NaN.
use Rattle.functions.specs.Laws.Fields.{no_nan_of}
use Rattle.functions_replay.proofs.bits_of.Goals as goal

pub float_to_bits-result : goal.float_to_bits-result
float_to_bits-result c = no_nan_of c.args.x c.if-x.false
