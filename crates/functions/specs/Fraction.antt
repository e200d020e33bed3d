-- Exact fractions of whole numbers, in which the bounds on exp, ln and sin are stated. Definitions only.
use Rattle.std.specs.Prelude.{ℕ, ◌+◌, ◌-◌, ◌*◌, ◌^◌, ◌≤◌, Bool, true, false, cond, not, T, List, [], ◌∷◌, length, Float}
use Rattle.std.specs.Float.Ieee.Scale.{finite}
use Rattle.std.specs.Float.Ieee.Positive.{num, den}
use Rattle.num.specs.Floats.{sign}

-- the fraction (plus - minus) / den
pub record Fraction : Type 0 where
  pub plus : ℕ
  pub minus : ℕ
  pub den : ℕ

-- a and b are at most 2 ^ -t apart: a - b ≤ 2 ^ -t and b - a ≤ 2 ^ -t, each times both denominators and 2 ^ t
pub record Within (t : ℕ) (a b : Fraction) : Type 0 where
  pub above : (a.plus * b.den + b.minus * a.den) * 2 ^ t ≤ (b.plus * a.den + a.minus * b.den) * 2 ^ t + a.den * b.den
  pub below : (b.plus * a.den + a.minus * b.den) * 2 ^ t ≤ (a.plus * b.den + b.minus * a.den) * 2 ^ t + a.den * b.den

abbrev pub added : Fraction → Fraction → Fraction
added a b = record { plus = a.plus * b.den + b.plus * a.den; minus = a.minus * b.den + b.minus * a.den; den = a.den * b.den }

-- - a where the first is true
abbrev pub negated : Bool → Fraction → Fraction
negated false a = a
negated true a = record { plus = a.minus; minus = a.plus; den = a.den }

-- a finite float as a fraction; num x / den x is its size
abbrev pub value_of : Float → Fraction
value_of x = negated (sign x) (record { plus = num x; minus = 0; den = den x })

-- r is a finite number, and at most 2 ^ -t from X
pub record FiniteWithin (t : ℕ) (r : Float) (X : Fraction) : Type 0 where
  pub number : T (finite r)
  pub close : Within t (value_of r) X

-- how far apart two numbers are
abbrev pub apart : ℕ → ℕ → ℕ
apart a b = (a - b) + (b - a)

-- with the terms a₀, .., aₙ, the sum of aᵢ u ^ i v ^ (n - i): v ^ n times the sum of aᵢ (u / v) ^ i
unfoldable pub sum_of : List ℕ → ℕ → ℕ → ℕ
sum_of [] u v = 0
sum_of (a ∷ ts) u v = a * v ^ length ts + u * sum_of ts u v

-- the terms at the even places, with 0 at the others, or the other way round
unfoldable pub kept : Bool → List ℕ → List ℕ
kept b [] = []
kept b (a ∷ ts) = cond b a 0 ∷ kept (not b) ts

-- (g / e) (a₀ - a₁ u / v + a₂ (u / v) ^ 2 - .. ± aₙ (u / v) ^ n) / c
unfoldable pub alternating : List ℕ → ℕ → ℕ → ℕ → ℕ → ℕ → ℕ → Fraction
alternating ts c n u v g e = record {
  plus = g * sum_of (kept true ts) u v;
  minus = g * sum_of (kept false ts) u v;
  den = c * v ^ n * e;
}
