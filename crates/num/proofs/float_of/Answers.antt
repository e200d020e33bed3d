-- `num::float_of` meets its contract: above the infinity's pattern, the sign aside, stand the NaNs, and `f64::NAN` is `nan`.
-- Assumes nothing.
use borrow.Author.Tests.{lt-ltb, le-ltb}
use mathlib.Core.Path.{◌≡◌, refl, sym, ◌∙◌}
use mathlib.Core.Bool.{true}
use lib.Ieee.{Float, nan, inf, fin, binary64, of_bits, is_nan, of_fields, odd}
use lib.Ieee.Bits.{nan_bits_above, nan_bits_is}
use Rattle.num.proofs.float_of.Goals as goal

is-nan : (v : Float) → is_nan v ≡ true → v ≡ nan
unfolding is_nan
is-nan nan e = refl
is-nan (inf s) e = cc
is-nan (fin s m x) e = cc

none : of_bits binary64 0x7ff8000000000000 ≡ nan
unfolding of_bits of_fields odd
none = refl

pub float_from_bits-result : goal.float_from_bits-result
float_from_bits-result c = rw (nan_bits_above, le-ltb _ _ c.if-bits-gt9218868437227405312.false) tt

pub returns-then-bits-gt9218868437227405312 : goal.returns-then-bits-gt9218868437227405312
returns-then-bits-gt9218868437227405312 c = none ∙ sym (is-nan _ (sym (nan_bits_is binary64 _) ∙ (nan_bits_above binary64 _ ∙ lt-ltb _ _ c.if-bits-gt9218868437227405312.true)))
