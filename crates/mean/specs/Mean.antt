-- The mean of an exact sum, correctly rounded. Clients cite mean_of; Laws/Mean.antt says what it is by the kit's own rounding. Definitions only.
use Rattle.std.specs.Prelude.{ℕ, ◌*◌, ◌^◌, Bool, true, false, cond, ◌&&◌, List, from_bits, nat_lt, Float}
use Rattle.std.specs.Float.{binary64}
use Rattle.std.specs.Float.Ieee.{sum}
use Rattle.exact.specs.Limbs.{value}
use Rattle.exact.specs.Kept.{is_row}

-- counts that are divided by
abbrev pub counts : ℕ → Bool
counts n = nat_lt 0 n && nat_lt n (2 ^ 32)

-- p less m, in units of 2 ^ -2148, over n: the two quotients' sum as IEEE 754 adds, which rounds the exact sum once. 0.0 for what is not two rows and a count
unfoldable pub mean_of : List ℕ → List ℕ → ℕ → Float
mean_of p m n = cond ((is_row p && is_row m) && counts n) (sum binary64 false (value p) true (value m) (n * 2 ^ 2148)) (from_bits binary64 0)
