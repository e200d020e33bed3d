-- exp: what it answers, and the sum that the answer is held against. Clients cite exp_of. Definitions only.
use Rattle.std.specs.Prelude.{◌≡◌, ℕ, ◌+◌, ◌-◌, ◌*◌, ◌/◌, ◌^◌, Bool, true, false, cond, not, T, List, [], ◌∷◌, pos, from_bits, is_nan, Float}
use Rattle.std.specs.Float.{nan, inf, fin, binary64}
use Rattle.std.specs.Float.Ieee.{unlike, lt}
use Rattle.std.specs.Float.Ieee.Positive.{num, den}
use Rattle.functions.specs.Fraction.{Fraction, sum_of}
use Rattle.functions.specs.Reduction.{nearest_of, left_of, below_of}
use Rattle.functions.specs.Words.{horner, upper, packed}

-- L is ell / 2 ^ 64
abbrev pub ell : ℕ
ell = 0xB172_17F7_D1CF_79AC

-- ---- the answer

-- 2 ^ 62 / i! for the even i up to 12, and for the odd i up to 13
abbrev pub even_words : List ℕ
even_words = 4611686018427387904 ∷ 2305843009213693952 ∷ 192153584101141162 ∷ 6405119470038038 ∷ 114377133393536 ∷ 1270857037705 ∷ 9627704831 ∷ []

abbrev pub odd_words : List ℕ
odd_words = 4611686018427387904 ∷ 768614336404564650 ∷ 38430716820228232 ∷ 915017067148291 ∷ 12708570377059 ∷ 115532457973 ∷ 740592679 ∷ []

-- the sum at f, or at - f, in units of 2 ^ -62; f is in units of 2 ^ -64
unfoldable pub fixed_exp : Bool → ℕ → ℕ
fixed_exp false f = horner even_words (upper f f) + upper f (horner odd_words (upper f f))
fixed_exp true f = horner even_words (upper f f) - upper f (horner odd_words (upper f f))

-- the answer at a size n / d and its sign: the sum at f, times 2 ^ k
unfoldable pub exp_size : Bool → ℕ → ℕ → Float
exp_size s n d =
    let k = nearest_of ell n d in
    from_bits binary64 (packed (cond s (1023 - k) (1023 + k)) (fixed_exp (unlike s (below_of ell n d)) (left_of ell n d / d)))

abbrev pub exp_finite : Float → Float
exp_finite nan = nan
exp_finite (inf s) = nan
exp_finite (fin s m e) = exp_size s (num (fin s m e)) (den (fin s m e))

-- 709, and -708
abbrev pub highest : Float
highest = fin false 709 (pos 0)

abbrev pub lowest : Float
lowest = fin true 177 (pos 2)

-- the answer: above 709 infinity, below -708 zero
unfoldable pub exp_of : Float → Float
unfolding lt
exp_of x = cond (lt highest x) (inf false) (cond (lt x lowest) (fin false 0 (pos 0)) (exp_finite x))

-- ---- what the bound speaks of

-- from -708 to 709
pub record ExpRange (x : Float) : Type 0 where
  pub number : T (not (is_nan x))
  pub most : lt highest x ≡ false
  pub least : lt x lowest ≡ false

-- r / 2 ^ k, for an r that is not below 0; k is below 0 where s is true
abbrev pub over_power : Bool → ℕ → Float → Fraction
over_power false k r = record { plus = num r; minus = 0; den = den r * 2 ^ k }
over_power true k r = record { plus = num r * 2 ^ k; minus = 0; den = den r }

-- 13! / i! for the even i up to 12, and for the odd i up to 13
abbrev pub evens : List ℕ
evens = 6227020800 ∷ 3113510400 ∷ 259459200 ∷ 8648640 ∷ 154440 ∷ 1716 ∷ 13 ∷ []

abbrev pub odds : List ℕ
odds = 6227020800 ∷ 1037836800 ∷ 51891840 ∷ 1235520 ∷ 17160 ∷ 156 ∷ 1 ∷ []

-- The power sum of f to degree 13, terms over factorials, at f = F / G, or at f = - F / G where s is true. Above the line it is 13! G ^ 13 times as large:
-- a term of degree i is F ^ i G ^ (13 - i) 13! / i!, and those of odd degree are taken away where f is below 0.
unfoldable pub power_sum : Bool → ℕ → ℕ → Fraction
power_sum false F G = record {
  plus = G * sum_of evens (F * F) (G * G) + F * sum_of odds (F * F) (G * G);
  minus = 0;
  den = 6227020800 * (G * G) ^ 6 * G;
}
power_sum true F G = record {
  plus = G * sum_of evens (F * F) (G * G);
  minus = F * sum_of odds (F * F) (G * G);
  den = 6227020800 * (G * G) ^ 6 * G;
}
