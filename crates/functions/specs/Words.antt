-- Fixed-point arithmetic in words of 64 bits: what the functions compute with. Definitions only.
use Rattle.std.specs.Prelude.{ℕ, ◌+◌, ◌-◌, ◌*◌, ◌/◌, ◌^◌, ◌≤◌, cond, List, [], ◌∷◌, ◌==◌, ⊤, Float}
use Rattle.std.specs.Int.Count.{count_leading_zeros}
use Rattle.std.specs.Float.Ieee.Positive.{num, den}

-- the upper half of a product of two words
abbrev pub upper : ℕ → ℕ → ℕ
upper a b = a * b / 2 ^ 64

-- c₀ + y (c₁ + y (c₂ + ..)), y in units of 2 ^ -64, by Horner's rule
unfoldable pub horner : List ℕ → ℕ → ℕ
horner [] y = 0
horner (c ∷ cs) y = c + upper (horner cs y) y

-- c₀ - y (c₁ - y (c₂ - ..))
unfoldable pub falling : List ℕ → ℕ → ℕ
falling [] y = 0
falling (c ∷ cs) y = c - upper (falling cs y) y

-- words that fall from t: each is at most the one before it
abbrev pub Falls : ℕ → List ℕ → Type 0
Falls t [] = ⊤
Falls t (c ∷ cs) = (c ≤ t) × Falls c cs

-- the 53 leading digits of p, rounded; a carry may make them 2 ^ 53
unfoldable pub rounded : ℕ → ℕ
rounded p = (p * 2 ^ count_leading_zeros 64 p / 2 ^ 10 + 1) / 2

-- the bits of the float p * 2 ^ (b - 1085), rounded to 53 digits: the exponent's field, to which the digits' leading one adds, and the digits
unfoldable pub packed : ℕ → ℕ → ℕ
packed b p = cond (p == 0) 0 ((b - count_leading_zeros 64 p) * 2 ^ 52 + rounded p)

-- the exponent's field stays within the format
pub record Room (b p : ℕ) : Type 0 where
  pub least : count_leading_zeros 64 p ≤ b
  pub most : b - count_leading_zeros 64 p + rounded p / 2 ^ 53 ≤ 2045

-- a finite float's size in units of 2 ^ -1074, the least that a float can be
abbrev pub units_of : Float → ℕ
units_of x = num x * 2 ^ 1074 / den x

-- the same, from the exponent's field and the digits
abbrev pub size_of : ℕ → ℕ → ℕ
size_of x t = cond (x == 0) t ((2 ^ 52 + t) * 2 ^ (x - 1))
