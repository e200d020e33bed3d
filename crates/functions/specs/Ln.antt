-- ln: what it answers, and the sum that the answer is held against. Clients cite ln_of. Definitions only.
use Rattle.std.specs.Prelude.{ℕ, ◌+◌, ◌-◌, ◌*◌, ◌/◌, ◌^◌, ◌<◌, ◌≤◌, Bool, true, false, cond, List, [], ◌∷◌, ◌==◌, from_bits, nat_le, nat_lt, Float}
use Rattle.std.specs.Bool.{beq}
use Rattle.std.specs.Float.{nan, inf, fin, binary64}
use Rattle.std.specs.Float.Ieee.{neg, size}
use Rattle.std.specs.Float.Ieee.Positive.{num, den}
use Rattle.functions.specs.Fraction.{Fraction, FiniteWithin, added, negated, apart, sum_of}
use Rattle.functions.specs.Words.{horner, upper, packed, units_of}
use Rattle.functions.specs.Exp.{ell}

-- ---- the answer

-- 2 ^ 62 / i for the odd i up to 17. The last word stands for 1 / 19 and for the terms past it, by the least error up to z = 1 / 5, so that these need no steps.
abbrev pub ln_words : List ℕ
ln_words = 4611686018427387904 ∷ 1537228672809129301 ∷ 922337203685477580 ∷ 658812288346769700 ∷ 512409557603043100 ∷ 419244183493398900 ∷ 354745078340568300 ∷ 307445734561825860 ∷ 271275648142787523 ∷ 251578777698996783 ∷ []

-- the size of z + z ^ 3 / 3 + .. in units of 2 ^ -62, for z in units of 2 ^ -64
unfoldable pub ln_word : ℕ → ℕ
ln_word f = upper f (horner ln_words (upper f f))

-- the size of z = (m - 1) / (m + 1) in units of 2 ^ -64, at m = q / o
unfoldable pub z_word : ℕ → ℕ → ℕ
z_word q o = 2 * (apart q o * 2 ^ 63 / (q + o))

-- 1 as q is written: m is q / 2 ^ 53 where q is 3 * 2 ^ 51 or more (h), and so below 1; otherwise it is q / 2 ^ 52
abbrev pub one_of : Bool → ℕ
one_of h = cond h (2 ^ 53) (2 ^ 52)

-- the answer's size in units of 2 ^ (t - 64): the size k of e, the sum's size w, and whether e and z have one sign
unfoldable pub ln_size : ℕ → ℕ → ℕ → Bool → ℕ
ln_size t k w true = k * ell / 2 ^ t + w / 2 ^ (t - 3)
ln_size t k w false = k * ell / 2 ^ t - w / 2 ^ (t - 3)

-- units of 2 ^ -60 up to k = 11, and of 2 ^ -54 beyond, so that the size is a word
abbrev pub unit_of : ℕ → ℕ
unit_of k = cond (nat_lt k 12) 4 10

-- the answer's size as a float
abbrev pub ln_float : ℕ → ℕ → Bool → Float
ln_float k w same = from_bits binary64 (packed (1021 + unit_of k) (ln_size (unit_of k) k w same))

-- whether the answer is below 0: e, which is p - 1075, is, or z where e is 0
abbrev pub minus_of : ℕ → Bool → Bool
minus_of p h = cond (apart p 1075 == 0) h (nat_lt p 1075)

-- e + 1075, at x = q * 2 ^ (c - 1127) with a q of 53 digits
abbrev pub place_of : ℕ → Bool → ℕ
place_of c h = cond h (c + 1) c

unfoldable pub ln_answer : ℕ → ℕ → Bool → Float
ln_answer c q h =
    let p = place_of c h in
    let r = ln_float (apart p 1075) (ln_word (z_word q (one_of h))) (beq (minus_of p h) h) in
    cond (minus_of p h) (neg r) r

-- where q lies
abbrev pub Digits : Bool → ℕ → Type 0
Digits false q = (2 ^ 52 ≤ q) × (q < 3 * 2 ^ 51)
Digits true q = (3 * 2 ^ 51 ≤ q) × (q < 2 ^ 53)

-- the 53 leading digits of a number
abbrev pub leading_of : ℕ → ℕ
leading_of z = z * 2 ^ 53 / 2 ^ size z

-- the answer at a finite x above 0
unfoldable pub ln_positive : Float → Float
ln_positive x = let z = units_of x in ln_answer (size z) (leading_of z) (nat_le (3 * 2 ^ 51) (leading_of z))

-- the answer: of a zero minus infinity, below zero NaN
unfoldable pub ln_of : Float → Float
ln_of nan = nan
ln_of (inf s) = cond s nan (inf false)
ln_of (fin s m e) = cond (m == 0) (inf true) (cond s nan (ln_positive (fin s m e)))

-- ---- what the bound speaks of

-- 14549535 / i for the odd i up to 19
abbrev pub ln_terms : List ℕ
ln_terms = 14549535 ∷ 4849845 ∷ 2909907 ∷ 2078505 ∷ 1616615 ∷ 1322685 ∷ 1119195 ∷ 969969 ∷ 855855 ∷ 765765 ∷ []

-- 2 (z + z ^ 3 / 3 + .. + z ^ 19 / 19) at z = (a - b) / (a + b), which is (m - 1) / (m + 1) at m = a / b
unfoldable pub ln_series : ℕ → ℕ → Fraction
ln_series a b =
    negated (nat_lt a b) (record {
      plus = 2 * (apart a b * sum_of ln_terms (apart a b * apart a b) ((a + b) * (a + b)));
      minus = 0;
      den = 14549535 * ((a + b) * (a + b)) ^ 9 * (a + b);
    })

-- m is m_top / m_bottom, with e = place - 1075
abbrev pub m_top : Float → ℕ
m_top x = num x * 2 ^ 1075

abbrev pub m_bottom : Float → ℕ → ℕ
m_bottom x place = den x * 2 ^ place

-- r at a finite x above 0: x = 2 ^ e m with 3/4 ≤ m < 3/2, and r is a finite number within 2 ^ -40 of e L and the series
pub record LnClose (x r : Float) : Type 0 where
  pub place : ℕ
  pub least : 3 * m_bottom x place ≤ 4 * m_top x
  pub below : 2 * m_top x < 3 * m_bottom x place
  pub close : FiniteWithin 40 r (added (record { plus = place * ell; minus = 1075 * ell; den = 2 ^ 64 }) (ln_series (m_top x) (m_bottom x place)))
