use Rattle.std.proofs.Common.{◌≡◌, refl, arith}
use Rattle.std.proofs.lemmas.Grind.{common_steps}
use Rattle.std.specs.Float.{nan, binary64}
use Rattle.std.specs.Float.Ieee.{of_bits, of_fields, odd}
use Rattle.pen.proofs.record.float_in.Goals as goal

no_number : of_bits binary64 9221120237041090560 ≡ nan
unfolding of_bits of_fields odd
no_number = refl

pub returns : goal.returns
returns c = let e = rw no_number at c.unwrap_or.ensures in grind (arith, common_steps, e)
