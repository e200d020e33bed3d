-- The numbers that the bit patterns of an `f64` stand for. Assumes nothing.
use Rattle.std.specs.Prelude.{◌≡◌, ℕ, suc, ◌+◌, ◌-◌, ◌*◌, ◌/◌, ◌%◌, ◌^◌, ◌<◌, ◌≤◌, Bool, false, cond, not, T, leb, ◌==◌, ◌≢◌, nat_le, refl, Float}
use Rattle.std.proofs.Common.{sym, ap, ◌∙◌, subst, inl, inr, not-le_of_lt, mod-eq_of_lt, eq-or-lt_of_le, mul_assoc, arith, leb→le, eqb→eq, lit<, lit≤}
use Rattle.std.proofs.Math.Nat.{pow-succ'}
use Rattle.std.proofs.Math.Dec.{not_T}
use Rattle.std.proofs.Math.Arith.{digits_div, digits_mod}
use Rattle.std.specs.Float.{nan, inf, fin, binary64}
use Rattle.std.specs.Float.Ieee.{odd, of_fields, of_bits, nan_bits, is_nan}
use Rattle.std.specs.Float.Ieee.Bits.{is_false, cond_no, nan_bits_is}
use Rattle.std.specs.Float.Ieee.Exact.{HasValue, odd_sign}

pub of_bits_is : (b : ℕ) → of_bits binary64 b ≡ of_fields binary64 (nat_le (2 ^ 63) b) (b % 2 ^ 63 / 2 ^ 52) (b % 2 ^ 52)
unfolding of_bits
of_bits_is b = refl

differ : (x : ℕ) → suc x < 2047 → suc x ≢ 2047
differ x h e = omega arith

under_ones : (s : Bool) (t x : ℕ) → suc x < 2047 → of_fields binary64 s (suc x) t ≡ odd 53 s (2 ^ 52 + t) x 1074
unfolding of_fields
under_ones s t x h = cond_no (suc x == 2047) (cond (t == 0) (inf s) nan) (odd 53 s (2 ^ 52 + t) x 1074) (not_T (suc x == 2047) (λ (u : T (suc x == 2047)). differ x h (eqb→eq (suc x) 2047 u)))

no_field : (s : Bool) (t : ℕ) → of_fields binary64 s 0 t ≡ odd 53 s t 0 1074
unfolding of_fields
no_field s t = refl

-- with a field x + 1 the leading digit counts
pub normal : (b x : ℕ) → b % 2 ^ 63 / 2 ^ 52 ≡ suc x → suc x < 2047 → HasValue (of_bits binary64 b) (nat_le (2 ^ 63) b) ((2 ^ 52 + b % 2 ^ 52) * 2 ^ x) (2 ^ 1074)
normal b x e h =
    subst (λ (z : Float). HasValue z (nat_le (2 ^ 63) b) ((2 ^ 52 + b % 2 ^ 52) * 2 ^ x) (2 ^ 1074))
    (sym (of_bits_is b ∙ ap (λ (n : ℕ). of_fields binary64 (nat_le (2 ^ 63) b) n (b % 2 ^ 52)) e ∙ under_ones (nat_le (2 ^ 63) b) (b % 2 ^ 52) x h))
    (odd_sign 53 (nat_le (2 ^ 63) b) (2 ^ 52 + b % 2 ^ 52) x 1074)

-- with a field of 0 it does not
pub subnormal : (b : ℕ) → b % 2 ^ 63 / 2 ^ 52 ≡ 0 → HasValue (of_bits binary64 b) (nat_le (2 ^ 63) b) (b % 2 ^ 52 * 2 ^ 0) (2 ^ 1074)
subnormal b e =
    subst (λ (z : Float). HasValue z (nat_le (2 ^ 63) b) (b % 2 ^ 52 * 2 ^ 0) (2 ^ 1074))
    (sym (of_bits_is b ∙ ap (λ (n : ℕ). of_fields binary64 (nat_le (2 ^ 63) b) n (b % 2 ^ 52)) e ∙ no_field (nat_le (2 ^ 63) b) (b % 2 ^ 52)))
    (odd_sign 53 (nat_le (2 ^ 63) b) (b % 2 ^ 52) 0 1074)

-- ---- the pattern that is put together from an exponent's field and 53 digits, whose leading one adds to the field
module _ (j m : ℕ) (lo : 2 ^ 52 ≤ m) (hi : m < 2 ^ 53) (jb : j ≤ 2045) where
  digits : j * 2 ^ 52 + m ≡ suc j * 2 ^ 52 + (m - 2 ^ 52)
  digits = omega arith

  rest_lt : m - 2 ^ 52 < 2 ^ 52
  rest_lt = omega arith

  low_half : j * 2 ^ 52 + m < 2 ^ 63
  low_half = omega arith

  field : (j * 2 ^ 52 + m) % 2 ^ 63 / 2 ^ 52 ≡ suc j
  field = ap (λ (n : ℕ). n / 2 ^ 52) (mod-eq_of_lt low_half ∙ digits) ∙ digits_div (suc j) rest_lt

  digits_are : 2 ^ 52 + (j * 2 ^ 52 + m) % 2 ^ 52 ≡ m
  digits_are = ap (λ (n : ℕ). 2 ^ 52 + n) (ap (λ (n : ℕ). n % 2 ^ 52) digits ∙ digits_mod (suc j) rest_lt) ∙ omega arith

  no_sign : leb (2 ^ 63) (j * 2 ^ 52 + m) ≡ false
  no_sign = is_false (nat_le (2 ^ 63) (j * 2 ^ 52 + m)) (not_T (nat_le (2 ^ 63) (j * 2 ^ 52 + m)) (λ (u : T (nat_le (2 ^ 63) (j * 2 ^ 52 + m))). not-le_of_lt low_half (leb→le (2 ^ 63) (j * 2 ^ 52 + m) u)))

  below_carry : HasValue (of_bits binary64 (j * 2 ^ 52 + m)) false (m * 2 ^ j) (2 ^ 1074)
  below_carry =
      subst (λ (n : ℕ). HasValue (of_bits binary64 (j * 2 ^ 52 + m)) false (n * 2 ^ j) (2 ^ 1074)) digits_are
      (subst (λ (s : Bool). HasValue (of_bits binary64 (j * 2 ^ 52 + m)) s ((2 ^ 52 + (j * 2 ^ 52 + m) % 2 ^ 52) * 2 ^ j) (2 ^ 1074)) no_sign (normal (j * 2 ^ 52 + m) j field (omega arith)))

-- with a carry the digits are 2 ^ 53, and the field goes up by one more
at_carry : (j : ℕ) → suc j ≤ 2045 → HasValue (of_bits binary64 (j * 2 ^ 52 + 2 ^ 53)) false (2 ^ 53 * 2 ^ j) (2 ^ 1074)
at_carry j h =
    subst (λ (n : ℕ). HasValue (of_bits binary64 n) false (2 ^ 53 * 2 ^ j) (2 ^ 1074)) (same j)
    (subst (λ (n : ℕ). HasValue (of_bits binary64 (suc j * 2 ^ 52 + 2 ^ 52)) false n (2 ^ 1074)) (ap (λ (n : ℕ). 2 ^ 52 * n) (pow-succ' 2 j) ∙ sym (mul_assoc (2 ^ 52) 2 (2 ^ j)))
    (below_carry (suc j) (2 ^ 52) (lit≤ tt) (lit< tt) h))
  where
    same : (a : ℕ) → suc a * 2 ^ 52 + 2 ^ 52 ≡ a * 2 ^ 52 + 2 ^ 53
    same a = omega arith

pub put_together : (j m : ℕ) → 2 ^ 52 ≤ m → m ≤ 2 ^ 53 → j + m / 2 ^ 53 ≤ 2045 → HasValue (of_bits binary64 (j * 2 ^ 52 + m)) false (m * 2 ^ j) (2 ^ 1074)
put_together j m lo hi jb =
    elim (eq-or-lt_of_le hi) [
      | inl e ↦ subst (λ (n : ℕ). HasValue (of_bits binary64 (j * 2 ^ 52 + n)) false (n * 2 ^ j) (2 ^ 1074)) (sym e) (at_carry j (carried e))
      | inr l ↦ below_carry j m lo l (omega arith)
    ]
  where
    carried : m ≡ 2 ^ 53 → suc j ≤ 2045
    carried e = omega arith

has_value : (z : Float) (s : Bool) (a c : ℕ) → HasValue z s a c → T (not (is_nan z))
unfolding is_nan
has_value nan s a c h = absurd h
has_value (inf t) s a c h = tt
has_value (fin t m e) s a c h = tt

-- a pattern with a value is no NaN's
pub no_nan : (b : ℕ) (s : Bool) (a c : ℕ) → HasValue (of_bits binary64 b) s a c → T (not (nan_bits binary64 b))
no_nan b s a c h = subst (λ (t : Bool). T (not t)) (sym (nan_bits_is binary64 b)) (has_value (of_bits binary64 b) s a c h)
