-- The units of a finite float that fits binary64, by the fields of its bit pattern: they are all of it, and few; and those of 1.0. Clients cite units_exact, units_few, one_sign and one_units.
use Rattle.std.specs.Prelude.{◌≡◌, ℕ, zero, suc, ◌+◌, ◌*◌, ◌/◌, ◌%◌, ◌^◌, ◌<◌, ◌≤◌, Bool, true, false, cond, T, ◌==◌, ◌≢◌, nat_le, to_bits, refl, Float}
use Rattle.std.proofs.Common.{sym, ap, ◌∙◌, subst, lt_of_not-le, le_of_lt, mod-lt, mul-div_cancel, mul-le-mul, arith, eqb→eq, lit<, shr_lt, pow_mono}
use Rattle.std.proofs.Math.Dec.{not_T}
use Rattle.std.specs.Int.Count.{count_trailing_zeros}
use Rattle.std.specs.Float.{nan, inf, fin, binary64}
use Rattle.std.specs.Float.Ieee.{fits, odd, of_fields, of_bits}
use Rattle.std.specs.Float.Ieee.Bits.{of_bits-to_bits, cond_no}
use Rattle.std.specs.Float.Ieee.Exact.{HasValue, odd_sign}
use Rattle.std.specs.Float.Ieee.Scale.{finite}
use Rattle.std.specs.Float.Ieee.Positive.{num, den, den_pos}
use Rattle.num.specs.Floats.{sign}
use Rattle.num.specs.Literals.{one}
use Rattle.exact.specs.Exact.{units}
use Rattle.exact.specs.Rows.{Small}

-- ---- 1.0

pub one_sign : sign one ≡ false
unfolding of_bits of_fields odd count_trailing_zeros
one_sign = refl

pub one_units : units one ≡ 2 ^ 1074
unfolding units of_bits of_fields odd count_trailing_zeros
one_units = refl

-- ---- any float

pub small_size_lem : (d p : ℕ) → Small d p → d * 2 ^ p ≤ 2 ^ 2098
small_size_lem d p s = mul-le-mul {n₂ = 2 ^ 53} {m₂ = 2 ^ 2045} (le_of_lt s.few) (pow_mono s.low)

of_bits_is : (b : ℕ) → of_bits binary64 b ≡ of_fields binary64 (nat_le (2 ^ 63) b) (b % 2 ^ 63 / 2 ^ 52) (b % 2 ^ 52)
unfolding of_bits
of_bits_is b = refl

under_ones : (s : Bool) (t x : ℕ) → suc x < 2047 → of_fields binary64 s (suc x) t ≡ odd 53 s (2 ^ 52 + t) x 1074
unfolding of_fields
under_ones s t x h = cond_no (suc x == 2047) (cond (t == 0) (inf s) nan) (odd 53 s (2 ^ 52 + t) x 1074) (not_T (suc x == 2047) (λ (u : T (suc x == 2047)). differ x h (eqb→eq (suc x) 2047 u)))
  where
    differ : (a : ℕ) → suc a < 2047 → suc a ≢ 2047
    differ a p e = omega arith

no_field : (s : Bool) (t : ℕ) → of_fields binary64 s 0 t ≡ odd 53 s t 0 1074
unfolding of_fields
no_field s t = refl

no_ones : (s : Bool) (t : ℕ) → T (finite (of_fields binary64 s 2047 t)) → ⊥
unfolding of_fields
no_ones s t h = go (t == 0) h
  where
    go : (c : Bool) → T (finite (cond c (inf s) nan)) → ⊥
    go true k = k
    go false k = k

value_sign : (x : Float) (s : Bool) (a c : ℕ) → HasValue x s a c → sign x ≡ s
value_sign nan s a c h = absurd h
value_sign (inf t) s a c h = absurd h
value_sign (fin t m e) s a c h = h.0

value_size : (x : Float) (s : Bool) (a c : ℕ) → HasValue x s a c → num x * c ≡ a * den x
value_size nan s a c h = absurd h
value_size (inf t) s a c h = absurd h
value_size (fin t m e) s a c h = h.1

units_are : (x : Float) (s : Bool) (a : ℕ) → HasValue x s a (2 ^ 1074) → units x ≡ a
unfolding units
units_are x s a h = ap (λ (n : ℕ). n / den x) (value_size x s a (2 ^ 1074) h) ∙ mul-div_cancel a (den_pos x)

-- what a bit pattern says of a float: its sign, and digits at a place
pub record Says (x : Float) (minus : Bool) (digits place : ℕ) : Type 0 where
  pub is : HasValue x minus (digits * 2 ^ place) (2 ^ 1074)
  pub small : Small digits place

pub said_sign : (x : Float) (s : Bool) (d p : ℕ) → Says x s d p → s ≡ sign x
said_sign x s d p h = sym (value_sign x s (d * 2 ^ p) (2 ^ 1074) h.is)

pub said_units : (x : Float) (s : Bool) (d p : ℕ) → Says x s d p → d * 2 ^ p ≡ units x
said_units x s d p h = sym (units_are x s (d * 2 ^ p) h.is)

said_exact : (x : Float) (s : Bool) (d p : ℕ) → Says x s d p → num x * 2 ^ 1074 ≡ units x * den x
said_exact x s d p h = value_size x s (d * 2 ^ p) (2 ^ 1074) h.is ∙ ap (λ (n : ℕ). n * den x) (said_units x s d p h)

said_few : (x : Float) (s : Bool) (d p : ℕ) → Says x s d p → units x ≤ 2 ^ 2098
said_few x s d p h = subst (λ (n : ℕ). n ≤ 2 ^ 2098) (said_units x s d p h) (small_size_lem d p h.small)

module _ (x : Float) (F : T (fits binary64 x)) (f : T (finite x)) where
  same : of_fields binary64 (nat_le (2 ^ 63) (to_bits binary64 x)) (to_bits binary64 x % 2 ^ 63 / 2 ^ 52) (to_bits binary64 x % 2 ^ 52) ≡ x
  same = sym (of_bits_is (to_bits binary64 x)) ∙ of_bits-to_bits binary64 x F

  field_under : to_bits binary64 x % 2 ^ 63 / 2 ^ 52 < 2047
  field_under =
      let b = to_bits binary64 x in
      lt_of_not-le (λ (k : 2047 ≤ b % 2 ^ 63 / 2 ^ 52). no_ones (nat_le (2 ^ 63) b) (b % 2 ^ 52)
      (subst (λ (z : Float). T (finite z)) (sym same ∙ ap (λ (a : ℕ). of_fields binary64 (nat_le (2 ^ 63) b) a (b % 2 ^ 52)) (only (b % 2 ^ 63 / 2 ^ 52) k (shr_lt 11 52 (mod-lt b (lit< tt))))) f))
    where
      only : (a : ℕ) → 2047 ≤ a → a < 2048 → a ≡ 2047
      only a p q = omega arith

  -- no exponent field: the digits alone
  pub subnormal : to_bits binary64 x % 2 ^ 63 / 2 ^ 52 ≡ 0 → Says x (nat_le (2 ^ 63) (to_bits binary64 x)) (to_bits binary64 x % 2 ^ 52) 0
  subnormal e =
      let b = to_bits binary64 x in
      record {
        is = subst (λ (z : Float). HasValue z (nat_le (2 ^ 63) b) (b % 2 ^ 52 * 2 ^ 0) (2 ^ 1074))
            (sym (sym same ∙ ap (λ (a : ℕ). of_fields binary64 (nat_le (2 ^ 63) b) a (b % 2 ^ 52)) e ∙ no_field (nat_le (2 ^ 63) b) (b % 2 ^ 52)))
            (odd_sign 53 (nat_le (2 ^ 63) b) (b % 2 ^ 52) 0 1074);
        small = record { few = go b; low = omega arith };
      }
    where
      go : (a : ℕ) → a % 2 ^ 52 < 2 ^ 53
      go a = omega arith

  -- an exponent field: a leading digit, and the place is one less than the field
  pub normal : (p : ℕ) → to_bits binary64 x % 2 ^ 63 / 2 ^ 52 ≡ suc p → Says x (nat_le (2 ^ 63) (to_bits binary64 x)) (2 ^ 52 + to_bits binary64 x % 2 ^ 52) p
  normal p e =
      let b = to_bits binary64 x in
      record {
        is = subst (λ (z : Float). HasValue z (nat_le (2 ^ 63) b) ((2 ^ 52 + b % 2 ^ 52) * 2 ^ p) (2 ^ 1074))
            (sym (sym same ∙ ap (λ (a : ℕ). of_fields binary64 (nat_le (2 ^ 63) b) a (b % 2 ^ 52)) e ∙ under_ones (nat_le (2 ^ 63) b) (b % 2 ^ 52) p (subst (λ (a : ℕ). a < 2047) e field_under)))
            (odd_sign 53 (nat_le (2 ^ 63) b) (2 ^ 52 + b % 2 ^ 52) p 1074);
        small = record { few = go b; low = lower (to_bits binary64 x % 2 ^ 63 / 2 ^ 52) p e field_under };
      }
    where
      go : (a : ℕ) → 2 ^ 52 + a % 2 ^ 52 < 2 ^ 53
      go a = omega arith

      lower : (a q : ℕ) → a ≡ suc q → a < 2047 → q ≤ 2045
      lower a q g h = omega arith

  -- the quotient that `units` is leaves nothing
  pub units_exact : num x * 2 ^ 1074 ≡ units x * den x
  units_exact = go (to_bits binary64 x % 2 ^ 63 / 2 ^ 52) refl
    where
      go : (k : ℕ) → to_bits binary64 x % 2 ^ 63 / 2 ^ 52 ≡ k → num x * 2 ^ 1074 ≡ units x * den x
      go zero e = said_exact x _ _ _ (subnormal e)
      go (suc k) e = said_exact x _ _ _ (normal k e)

  -- and no float has more
  pub units_few : units x ≤ 2 ^ 2098
  units_few = go (to_bits binary64 x % 2 ^ 63 / 2 ^ 52) refl
    where
      go : (k : ℕ) → to_bits binary64 x % 2 ^ 63 / 2 ^ 52 ≡ k → units x ≤ 2 ^ 2098
      go zero e = said_few x _ _ _ (subnormal e)
      go (suc k) e = said_few x _ _ _ (normal k e)
