-- What does not differ from itself is no NaN.
use Rattle.std.specs.Prelude.{◌≡◌, false, not, T, Float}
use Rattle.std.proofs.Common.{sym, ◌∙◌, true≢false}
use Rattle.std.specs.Float.{nan, inf, fin}
use Rattle.std.specs.Float.Ieee.{ne, is_nan}
use Rattle.std.specs.Float.Ieee.Compare.{nan_differs}
use Rattle.mean_replay.proofs.bits_of.Goals as goal

number : (x : Float) → ne x x ≡ false → T (not (is_nan x))
unfolding is_nan
number nan h = absurd (true≢false (sym nan_differs ∙ h))
number (inf s) h = tt
number (fin s m e) h = tt

pub float_to_bits-result : goal.float_to_bits-result
float_to_bits-result c = number c.args.x c.if-x.false
