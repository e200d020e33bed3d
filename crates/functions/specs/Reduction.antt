-- The reduction of x by a modulus M / 2 ^ 64: k, the whole number nearest to x over the modulus, and f = x - k M / 2 ^ 64. Definitions only.
-- Where x is below 0, k and f are those of - x, negated; no quotient lies in the middle of two whole numbers.
use Rattle.std.specs.Prelude.{◌≡◌, ℕ, ◌+◌, ◌*◌, ◌/◌, ◌^◌, ◌<◌, ◌≤◌, Bool, nat_lt, Float}
use Rattle.std.specs.Float.Ieee.{unlike}
use Rattle.std.specs.Float.Ieee.Positive.{num, den}
use Rattle.num.specs.Floats.{sign}
use Rattle.functions.specs.Fraction.{apart}

-- at a size n / d: the whole number nearest to n * 2 ^ 64 / (M d)
unfoldable pub nearest_of : ℕ → ℕ → ℕ → ℕ
nearest_of M n d = (2 * (n * 2 ^ 64) + M * d) / (2 * (M * d))

-- the size of f is left_of M n d / (2 ^ 64 * d), and f is below 0 where n / d is below k times the modulus
unfoldable pub left_of : ℕ → ℕ → ℕ → ℕ
left_of M n d = apart (n * 2 ^ 64) (nearest_of M n d * (M * d))

unfoldable pub below_of : ℕ → ℕ → ℕ → Bool
below_of M n d = nat_lt (n * 2 ^ 64) (nearest_of M n d * (M * d))

-- at a float x: the size of k, whose sign is x's; f as a fraction with its sign
abbrev pub k_of : ℕ → Float → ℕ
k_of M x = nearest_of M (num x) (den x)

abbrev pub f_top : ℕ → Float → ℕ
f_top M x = left_of M (num x) (den x)

abbrev pub f_bottom : Float → ℕ
f_bottom x = 2 ^ 64 * den x

abbrev pub f_minus : ℕ → Float → Bool
f_minus M x = unlike (sign x) (below_of M (num x) (den x))

-- ---- what k is

-- k is the whole number nearest to the size of x over the modulus: less than 1/2 from it, and no other is within 1/2. Each side is times 2 M and x's denominator.
pub record Nearest (M : ℕ) (x : Float) (k : ℕ) : Type 0 where
  pub half : 2 * apart (num x * 2 ^ 64) (k * (M * den x)) < M * den x
  pub only : (j : ℕ) → 2 * apart (num x * 2 ^ 64) (j * (M * den x)) ≤ M * den x → j ≡ k
