-- `num::absolute` meets its contract: what the library's `abs` says of a float with its sign clear is `absolute_of`.
use mathlib.Core.Path.{◌≡◌, refl, ◌∙◌}
use mathlib.Core.Bool.{false}
use Rattle.std.specs.Float.{Float, nan, inf, fin, float_with_sign}
use Rattle.num.specs.Floats.{absolute_of}
use Rattle.num.proofs.absolute.Goals as goal

cleared : (x : Float) → float_with_sign false x ≡ absolute_of x
unfolding float_with_sign absolute_of
cleared nan = refl
cleared (inf s) = refl
cleared (fin s m e) = refl

pub returns : goal.returns
returns c = c.abs.ensures.value ∙ cleared c.args.x
