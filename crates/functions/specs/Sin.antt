-- sin: what it answers, and the sums that the answer is held against. Clients cite sin_of, Numbers and numbers_of, laws sine_refusal and number_of. Definitions only.
use Rattle.std.specs.Prelude.{ℕ, zero, suc, ◌-◌, ◌*◌, ◌/◌, ◌%◌, ◌^◌, ◌≤◌, Bool, true, false, cond, T, List, [], ◌∷◌, Option, Some, None, ◌==◌, from_bits, nat_le, nat_lt, Float}
use Rattle.std.specs.Float.{nan, inf, fin, binary64}
use Rattle.std.specs.Float.Ieee.{unlike, neg, size}
use Rattle.std.specs.Float.Ieee.Scale.{finite}
use Rattle.std.specs.Float.Ieee.Positive.{num, den}
use Rattle.numbers.specs.Refusals.{by_argument}
use Rattle.num.specs.Floats.{nought, sign}
use Rattle.functions.specs.Fraction.{Fraction, alternating, negated}
use Rattle.functions.specs.Reduction.{nearest_of, left_of, below_of, k_of}
use Rattle.functions.specs.Words.{falling, upper, packed, units_of}

-- Q is quarter / 2 ^ 64
abbrev pub quarter : ℕ
quarter = 4 * 0x6487_ED51_10B4_611A

-- ---- the answer

-- 2 ^ 62 / i! for the odd i up to 17, and for the even i up to 16
abbrev pub sine_words : List ℕ
sine_words = 4611686018427387904 ∷ 768614336404564650 ∷ 38430716820228232 ∷ 915017067148291 ∷ 12708570377059 ∷ 115532457973 ∷ 740592679 ∷ 3526631 ∷ 12965 ∷ []

abbrev pub cosine_words : List ℕ
cosine_words = 4611686018427387904 ∷ 2305843009213693952 ∷ 192153584101141162 ∷ 6405119470038038 ∷ 114377133393536 ∷ 1270857037705 ∷ 9627704831 ∷ 52899477 ∷ 220414 ∷ []

-- the size of the sine or the cosine in units of 2 ^ -62, at f in units of 2 ^ -64
unfoldable pub sine_word : ℕ → ℕ
sine_word f = upper f (falling sine_words (upper f f))

unfoldable pub cosine_word : ℕ → ℕ
cosine_word f = falling cosine_words (upper f f)

-- by k mod 2 the one or the other
unfoldable pub wave_word : ℕ → ℕ → ℕ
wave_word k f = cond (k % 2 == 0) (sine_word f) (cosine_word f)

-- whether the answer's sign is not x's; below says that f and k have unlike signs
unfoldable pub wave_side : ℕ → Bool → Bool
wave_side k below = unlike (nat_le 2 (k % 4)) (cond (k % 2 == 0) below false)

-- The answer's size below 1/4, where k is 0: the sum over f times n / d itself, by its 64 leading digits, so that no digit is lost. n / d has c digits in units of 2 ^ -1074.
unfoldable pub small_size : ℕ → ℕ → Float
small_size n d =
    let c = size (n * 2 ^ 1074 / d) in
    let f = n * 2 ^ 64 / d in
    from_bits binary64 (packed (c - 51) (upper (n * 2 ^ (1138 - c) / d) (falling sine_words (upper f f))))

-- the answer below 1/4; where f has no word, below 2 ^ -64, it is x itself
unfoldable pub sin_small : Float → Float
sin_small x = let r = small_size (num x) (den x) in cond (nat_le (size (units_of x)) 1010) x (cond (sign x) (neg r) r)

-- the answer from there up to 2 ^ 20
unfoldable pub sin_large : Float → Float
sin_large x =
    let k = nearest_of quarter (num x) (den x) in
    let r = from_bits binary64 (packed 1023 (wave_word k (left_of quarter (num x) (den x) / den x))) in
    cond (unlike (sign x) (wave_side k (below_of quarter (num x) (den x)))) (neg r) r

unfoldable pub sin_near : Float → Float
sin_near x = cond (nat_lt (4 * num x) (den x)) (sin_small x) (sin_large x)

-- beyond 2 ^ 20 in size: none where x is finite, which is the refusal, and NaN of an infinity
unfoldable pub sin_far : Float → Option Float
sin_far x = cond (finite x) None (Some nan)

-- the answer
unfoldable pub sin_of : Float → Option Float
sin_of nan = Some nan
sin_of (inf s) = Some nan
sin_of (fin s m e) = cond (nat_le (num (fin s m e)) (2 ^ 20 * den (fin s m e))) (Some (sin_near (fin s m e))) None

-- the numbers of an answer: the refusal, 0 if none, and the value, 0.0 if refused
pub record Numbers : Type 0 where
  pub refusal : ℕ
  pub value : Float

abbrev pub numbers_of : Option Float → Numbers
numbers_of (Some r) = record { refusal = 0; value = r }
numbers_of None = record { refusal = by_argument; value = nought }

-- each by itself, as the laws say it
abbrev pub sine_refusal : Option Float → ℕ
sine_refusal s = (numbers_of s).refusal

abbrev pub number_of : Option Float → Float
number_of s = (numbers_of s).value

-- ---- what the bound speaks of

-- finite, and not beyond 2 ^ 20 in size
pub record SinRange (x : Float) : Type 0 where
  pub number : T (finite x)
  pub most : num x ≤ 2 ^ 20 * den x

-- 17! / i! for the odd i up to 17, and 16! / i! for the even i up to 16
abbrev pub sine_terms : List ℕ
sine_terms = 355687428096000 ∷ 59281238016000 ∷ 2964061900800 ∷ 70572902400 ∷ 980179200 ∷ 8910720 ∷ 57120 ∷ 272 ∷ 1 ∷ []

abbrev pub cosine_terms : List ℕ
cosine_terms = 20922789888000 ∷ 10461394944000 ∷ 871782912000 ∷ 29059430400 ∷ 518918400 ∷ 5765760 ∷ 43680 ∷ 240 ∷ 1 ∷ []

-- the sine sum to f ^ 17 and the cosine sum to f ^ 16, at f = F / G, or at f = - F / G where s is true
abbrev pub sine_sum : Bool → ℕ → ℕ → Fraction
sine_sum s F G = negated s (alternating sine_terms 355687428096000 8 (F * F) (G * G) F G)

abbrev pub cosine_sum : ℕ → ℕ → Fraction
cosine_sum F G = alternating cosine_terms 20922789888000 8 (F * F) (G * G) 1 1

-- k mod 4, k having x's sign
abbrev pub quadrant : Float → ℕ
quadrant x = cond (sign x) ((4 - k_of quarter x % 4) % 4) (k_of quarter x % 4)

-- the sine sum where k mod 4 is 0, the cosine sum (1), minus the first (2), minus the second (3)
abbrev pub wave : ℕ → Bool → ℕ → ℕ → Fraction
wave zero s F G = sine_sum s F G
wave (suc zero) s F G = cosine_sum F G
wave (suc (suc zero)) s F G = negated true (sine_sum s F G)
wave (suc (suc (suc j))) s F G = negated true (cosine_sum F G)
