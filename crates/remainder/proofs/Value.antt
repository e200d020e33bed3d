-- The value of what is negated and of a product, from the values of the parts, and of a shifted one.
use Rattle.std.specs.Prelude.{◌≡◌, refl, ℕ, ◌*◌, ◌%◌, ◌^◌, ◌<◌, Bool, true, false, Float}
use Rattle.std.proofs.Common.{sym, ap, ◌∙◌, mul-pos, one-mul, mod-eq_of_lt, arith}
use Rattle.std.specs.Float.{nan, inf, fin, Format}
use Rattle.std.specs.Float.Ieee.{round, neg, mul, unlike, up, down}
use Rattle.std.specs.Float.Ieee.Exact.{HasValue}
use lib.Pow.{pow-lt}
use lib.Ieee.Fits.{down_pos}
use lib.Ieee.Scale.{round_same}

pub negated : (x : Float) (a c : ℕ) → HasValue x false a c → HasValue (neg x) true a c
unfolding neg
negated nan a c h = absurd h
negated (inf s) a c h = absurd h
negated (fin true m e) a c h = absurd (cc h.0)
negated (fin false m e) a c h = (refl, h.1)

cross : (x y u v a b c d : ℕ) → x * c ≡ a * u → y * d ≡ b * v → x * y * (c * d) ≡ a * b * (u * v)
cross x y u v a b c d p q = four x y c d ∙ ap (λ (z : ℕ). z * (y * d)) p ∙ ap (λ (z : ℕ). a * u * z) q ∙ sym (four a b u v)
  where
    four : (x y c d : ℕ) → x * y * (c * d) ≡ x * c * (y * d)
    four x y c d = omega arith

pub product : (f : Format) (x y : Float) (s t : Bool) (a b c d : ℕ) → 0 < c → 0 < d → HasValue x s a c → HasValue y t b d → mul f x y ≡ round f (unlike s t) (a * b) (c * d)
unfolding mul
product f nan y s t a b c d p q h k = absurd h
product f (inf z) y s t a b c d p q h k = absurd h
product f (fin z m e) nan s t a b c d p q h k = absurd k
product f (fin z m e) (inf w) s t a b c d p q h k = absurd k
product f (fin z m e) (fin w n g) s t a b c d p q h k =
    rw (← h.0, ← k.0) (round_same f (unlike z w) (m * up e * (n * up g)) (down e * down g) (a * b) (c * d) (mul-pos (down_pos e) (down_pos g)) (mul-pos p q) (cross (m * up e) (n * up g) (down e) (down g) a b c d h.1 k.1))

-- a one that is shifted by fewer than 53 places loses nothing
pub shifted : (d : ℕ) → d < 53 → (1 * 2 ^ d) % 18446744073709551616 ≡ 2 ^ d
shifted d h = ap (λ (z : ℕ). z % 18446744073709551616) (one-mul (2 ^ d)) ∙ mod-eq_of_lt (pow-lt {i = d} {j = 64} (omega arith))
