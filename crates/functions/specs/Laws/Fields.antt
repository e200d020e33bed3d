-- A float by its bit pattern: the exponent's field and the digits give its size, in units of 2 ^ -1074. Assumes nothing.
use Rattle.std.specs.Prelude.{◌≡◌, ℕ, zero, suc, ◌+◌, ◌-◌, ◌*◌, ◌/◌, ◌%◌, ◌^◌, ◌<◌, ◌≤◌, Bool, true, false, cond, not, T, ◌==◌, from_bits, nat_le, to_bits, refl, Float}
use Rattle.std.proofs.Common.{sym, ap, ◌∙◌, subst, true≢false, lt_of_lt_of_le, not-le_of_lt, lt_of_not-le, mul-le-mul, mul-le-mul_right, mul-lt-mul_of_pos_right, mod-lt, mul_comm, mul-pos, zero-mul, lt_irrefl, arith, lit<, pow-add, pow_pos, pow_mono, shr_lt}
use Rattle.std.proofs.Math.Dec.{eqb-suc-zero}
use Rattle.std.specs.Float.{nan, inf, fin, binary64}
use Rattle.std.specs.Float.Ieee.{ne, is_nan, fits, of_fields}
use Rattle.std.specs.Float.Ieee.Bits.{of_bits-to_bits, to_bits-lt}
use Rattle.std.specs.Float.Ieee.Compare.{nan_differs}
use Rattle.std.specs.Float.Ieee.Exact.{HasValue}
use Rattle.std.specs.Float.Ieee.Scale.{finite}
use Rattle.std.specs.Float.Ieee.Positive.{num, den, den_pos, positive, value_pos, own_value}
use Rattle.num.specs.Floats.{sign}
use Rattle.functions.specs.Words.{size_of}
use Rattle.functions.specs.Laws.Bits64.{of_bits_is, normal, subnormal}

pub no_nan_of : (x : Float) → ne x x ≡ false → T (not (is_nan x))
unfolding is_nan
no_nan_of nan h = absurd (true≢false (sym nan_differs ∙ h))
no_nan_of (inf s) h = tt
no_nan_of (fin s m e) h = tt

pub number : (x : Float) → T (finite x) → T (not (is_nan x))
unfolding is_nan
number nan h = absurd h
number (inf s) h = tt
number (fin s m e) h = tt

-- a field from 1 up
pub with_field : (x t : ℕ) → 1 ≤ x → size_of x t ≡ (2 ^ 52 + t) * 2 ^ (x - 1)
with_field zero t h = absurd (none h)
  where
    none : 1 ≤ 0 → ⊥
    none p = omega arith
with_field (suc x) t h = ap (λ (b : Bool). cond b t ((2 ^ 52 + t) * 2 ^ (suc x - 1))) (eqb-suc-zero x)

-- a field of at most b
pub size_lt : (x t b : ℕ) → t < 2 ^ 52 → x ≤ b → 1 ≤ b → size_of x t < 2 ^ (52 + b)
size_lt zero t b h p q = lt_of_lt_of_le h (pow_mono (go b q))
  where
    go : (a : ℕ) → 1 ≤ a → 52 ≤ 52 + a
    go a r = omega arith
size_lt (suc x) t b h p q =
    subst (λ (a : ℕ). a < 2 ^ (52 + b)) (sym (with_field (suc x) t (one x)))
    (lt_of_lt_of_le (mul-lt-mul_of_pos_right (twice t h) (pow_pos (suc x - 1)))
    (subst (λ (a : ℕ). a ≤ 2 ^ (52 + b)) (pow-add 2 53 (suc x - 1)) (pow_mono (go x b p))))
  where
    one : (a : ℕ) → 1 ≤ suc a
    one a = omega arith

    twice : (a : ℕ) → a < 2 ^ 52 → 2 ^ 52 + a < 2 ^ 53
    twice a r = omega arith

    go : (a c : ℕ) → suc a ≤ c → 53 + (suc a - 1) ≤ 52 + c
    go a c r = omega arith

-- ---- the fields
no_ones : (s : Bool) (t : ℕ) → T (finite (of_fields binary64 s 2047 t)) → ⊥
unfolding of_fields
no_ones s t h = go (t == 0) h
  where
    go : (c : Bool) → T (finite (cond c (inf s) nan)) → ⊥
    go true k = k
    go false k = k

pub fields_value : (b : ℕ) → b < 2 ^ 64 → T (finite (from_bits binary64 b)) → HasValue (from_bits binary64 b) (nat_le (2 ^ 63) b) (size_of (b % 2 ^ 63 / 2 ^ 52) (b % 2 ^ 52)) (2 ^ 1074)
fields_value b h f = go (b % 2 ^ 63 / 2 ^ 52) refl (field_lt b)
  where
    field_lt : (a : ℕ) → a % 2 ^ 63 / 2 ^ 52 < 2048
    field_lt a = shr_lt 11 52 (mod-lt a (lit< tt))

    go : (x : ℕ) → b % 2 ^ 63 / 2 ^ 52 ≡ x → x < 2048 → HasValue (from_bits binary64 b) (nat_le (2 ^ 63) b) (size_of x (b % 2 ^ 52)) (2 ^ 1074)
    go zero e l = subst (λ (a : ℕ). HasValue (from_bits binary64 b) (nat_le (2 ^ 63) b) a (2 ^ 1074)) (one (b % 2 ^ 52)) (subnormal b e)
      where
        one : (a : ℕ) → a * 2 ^ 0 ≡ a
        one a = omega arith
    go (suc x) e l =
        subst (λ (a : ℕ). HasValue (from_bits binary64 b) (nat_le (2 ^ 63) b) a (2 ^ 1074)) (ap (λ (a : ℕ). (2 ^ 52 + b % 2 ^ 52) * 2 ^ a) (back x) ∙ sym (with_field (suc x) (b % 2 ^ 52) (first x)))
        (normal b x e (lt_of_not-le (λ (k : 2047 ≤ suc x). no_ones (nat_le (2 ^ 63) b) (b % 2 ^ 52) (subst (λ (z : Float). T (finite z)) (of_bits_is b ∙ ap (λ (a : ℕ). of_fields binary64 (nat_le (2 ^ 63) b) a (b % 2 ^ 52)) (e ∙ only (suc x) k l)) f))))
      where
        back : (a : ℕ) → a ≡ suc a - 1
        back a = omega arith

        first : (a : ℕ) → 1 ≤ suc a
        first a = omega arith

        only : (a : ℕ) → 2047 ≤ a → a < 2048 → a ≡ 2047
        only a p q = omega arith

value_sign : (x : Float) (s : Bool) (a c : ℕ) → HasValue x s a c → sign x ≡ s
value_sign nan s a c h = absurd h
value_sign (inf t) s a c h = absurd h
value_sign (fin t m e) s a c h = h.0

value_size : (x : Float) (s : Bool) (a c : ℕ) → HasValue x s a c → num x * c ≡ a * den x
value_size nan s a c h = absurd h
value_size (inf t) s a c h = absurd h
value_size (fin t m e) s a c h = h.1

-- every finite float, by its pattern's fields
pub at_fields : (x : Float) → T (fits binary64 x) → T (finite x)
    → (sign x ≡ nat_le (2 ^ 63) (to_bits binary64 x)) × (num x * 2 ^ 1074 ≡ size_of (to_bits binary64 x % 2 ^ 63 / 2 ^ 52) (to_bits binary64 x % 2 ^ 52) * den x)
at_fields x F f =
    let b = to_bits binary64 x in
    let same : from_bits binary64 b ≡ x = of_bits-to_bits binary64 x F in
    let v : HasValue x (nat_le (2 ^ 63) b) (size_of (b % 2 ^ 63 / 2 ^ 52) (b % 2 ^ 52)) (2 ^ 1074) =
    subst (λ (z : Float). HasValue z (nat_le (2 ^ 63) b) (size_of (b % 2 ^ 63 / 2 ^ 52) (b % 2 ^ 52)) (2 ^ 1074)) same
    (fields_value b (to_bits-lt binary64 x F) (subst (λ (z : Float). T (finite z)) (sym same) f)) in
    (value_sign x _ _ _ v, value_size x _ _ _ v)

-- ---- the field of a finite float, and a size above 0
pub field_under : (x : Float) → T (fits binary64 x) → T (finite x) → to_bits binary64 x % 2 ^ 63 / 2 ^ 52 < 2047
field_under x F f =
    let b = to_bits binary64 x in
    lt_of_not-le (λ (k : 2047 ≤ b % 2 ^ 63 / 2 ^ 52). no_ones (nat_le (2 ^ 63) b) (b % 2 ^ 52)
    (subst (λ (z : Float). T (finite z)) (sym (of_bits-to_bits binary64 x F) ∙ of_bits_is b ∙ ap (λ (a : ℕ). of_fields binary64 (nat_le (2 ^ 63) b) a (b % 2 ^ 52)) (only (b % 2 ^ 63 / 2 ^ 52) k (shr_lt 11 52 (mod-lt b (lit< tt))))) f))
  where
    only : (a : ℕ) → 2047 ≤ a → a < 2048 → a ≡ 2047
    only a p q = omega arith

num_pos : (x : Float) → T (positive x) → 0 < num x
num_pos x p = value_pos x (num x) (den x) p (den_pos x) (own_value x p)

pub some_size : (x : Float) (a t : ℕ) → T (positive x) → num x * 2 ^ 1074 ≡ size_of a t * den x → 1 ≤ a + t
some_size x zero zero p e = absurd (lt_irrefl 0 (subst (λ (n : ℕ). 0 < n) (e ∙ zero-mul (den x)) (mul-pos (num_pos x p) (pow_pos 1074))))
some_size x zero (suc t) p e = omega arith
some_size x (suc a) t p e = omega arith

-- a size below 2 ^ (52 + e) units has a field of at most e
pub field_most : (n d x t e : ℕ) → n * 2 ^ 1074 < 2 ^ (52 + e) * d → n * 2 ^ 1074 ≡ size_of x t * d → x < suc e
field_most n d x t e h f = lt_of_not-le (λ (g : suc e ≤ x). not-le_of_lt h (more g))
  where
    more : suc e ≤ x → 2 ^ (52 + e) * d ≤ n * 2 ^ 1074
    more g =
        subst (λ (a : ℕ). 2 ^ (52 + e) * d ≤ a) (sym (f ∙ ap (λ (a : ℕ). a * d) (with_field x t (one x e g))))
        (mul-le-mul_right d (subst (λ (a : ℕ). a ≤ (2 ^ 52 + t) * 2 ^ (x - 1)) (sym (pow-add 2 52 e)) (mul-le-mul {n₁ = 2 ^ 52} {m₁ = 2 ^ e} (lead t) (pow_mono (less x e g)))))
      where
        one : (a b : ℕ) → suc b ≤ a → 1 ≤ a
        one a b p = omega arith

        lead : (a : ℕ) → 2 ^ 52 ≤ 2 ^ 52 + a
        lead a = omega arith

        less : (a b : ℕ) → suc b ≤ a → b ≤ a - 1
        less a b p = omega arith

-- n / d in units of 2 ^ -1074, where it is below 2 ^ i or below 2 ^ -2
pub units_below : (n d i : ℕ) → n < 2 ^ i * d → n * 2 ^ 1074 < 2 ^ (i + 1074) * d
units_below n d i h = subst (λ (a : ℕ). n * 2 ^ 1074 < a) (swap (2 ^ i) d (2 ^ 1074) ∙ ap (λ (a : ℕ). a * d) (sym (pow-add 2 i 1074))) (mul-lt-mul_of_pos_right h (pow_pos 1074))
  where
    swap : (a b c : ℕ) → a * b * c ≡ a * c * b
    swap a b c = omega arith

pub quarter_below : (n d : ℕ) → 4 * n < d → n * 2 ^ 1074 < 2 ^ 1072 * d
quarter_below n d h = subst (λ (a : ℕ). a < 2 ^ 1072 * d) (shift n (2 ^ 1072)) (subst (λ (a : ℕ). 4 * n * 2 ^ 1072 < a) (mul_comm d (2 ^ 1072)) (mul-lt-mul_of_pos_right h (pow_pos 1072)))
  where
    shift : (a P : ℕ) → 4 * a * P ≡ a * (4 * P)
    shift a P = omega arith
