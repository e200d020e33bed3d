-- The bits of a finite float, by its sign and its size in units of 2 ^ -1074: so no two floats share them. Clients cite bits_are and same_float.
use Rattle.std.specs.Prelude.{◌≡◌, ℕ, ◌+◌, ◌-◌, ◌*◌, ◌/◌, ◌^◌, Bool, cond, T, from_bits, Float}
use Rattle.std.proofs.Common.{sym, ap, ◌∙◌, mul-div_cancel}
use Rattle.std.specs.Float.{nan, inf, fin, binary64}
use Rattle.std.specs.Float.Ieee.{up, down, size, to_bits, fits}
use Rattle.std.specs.Float.Ieee.Bits.{of_bits-to_bits}
use Rattle.std.specs.Float.Ieee.Exact.{HasValue}
use Rattle.std.specs.Float.Ieee.Fits.{down_pos}

pub bits_are : (x : Float) (s : Bool) (a : ℕ) → HasValue x s a (2 ^ 1074) → to_bits binary64 x ≡ cond s (2 ^ 63) 0 + (size a - 53) * 2 ^ 52 + a / 2 ^ (size a - 53)
unfolding to_bits
bits_are nan s a h = absurd h
bits_are (inf t) s a h = absurd h
bits_are (fin t m e) s a h =
    (λ i. let n = m * up e * 2 ^ 1074 / down e in cond (h.0 i) (2 ^ 63) 0 + (size n - 53) * 2 ^ 52 + n / 2 ^ (size n - 53))
    ∙ ap (λ (n : ℕ). cond s (2 ^ 63) 0 + (size n - 53) * 2 ^ 52 + n / 2 ^ (size n - 53)) (ap (λ (z : ℕ). z / down e) h.1 ∙ mul-div_cancel a (down_pos e))

pub same_float : (x y : Float) (s : Bool) (a : ℕ) → T (fits binary64 x) → T (fits binary64 y) → HasValue x s a (2 ^ 1074) → HasValue y s a (2 ^ 1074) → x ≡ y
same_float x y s a F G h k = sym (of_bits-to_bits binary64 x F) ∙ ap (from_bits binary64) (bits_are x s a h ∙ sym (bits_are y s a k)) ∙ of_bits-to_bits binary64 y G
