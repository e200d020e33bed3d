-- The mean by the kit's own rounding: one law for a sum that is not below 0, one for a sum below 0. Clients cite mean_plus and mean_minus.
use Rattle.std.specs.Prelude.{◌≡◌, ℕ, ◌-◌, ◌*◌, ◌^◌, ◌<◌, ◌≤◌, true, false, List, length}
use borrow.Author.Tests.{eq-eqb, lt-ltb, le-ltb}
use Rattle.std.specs.Float.{binary64}
use Rattle.std.specs.Float.Ieee.{round, sum}
use Rattle.exact.specs.Limbs.{value}
use Rattle.numbers.specs.Limits.{sum_limbs}
use Rattle.mean.specs.Mean.{mean_of}

module _ (p m : List ℕ) (n : ℕ) (P : length p ≡ sum_limbs) (M : length m ≡ sum_limbs) (N : 0 < n) (F : n < 2 ^ 32) where
  -- a sum that is not below 0: its size over the count, rounded by the kit's own rounding
  pub mean_plus : value m ≤ value p → mean_of p m n ≡ round binary64 false (value p - value m) (n * 2 ^ 2148)
  unfolding mean_of sum
  mean_plus h = rw (eq-eqb (length p) 66 P, eq-eqb (length m) 66 M, lt-ltb 0 n N, lt-ltb n (2 ^ 32) F, le-ltb (value p) (value m) h)

  -- a sum below 0
  pub mean_minus : value p < value m → mean_of p m n ≡ round binary64 true (value m - value p) (n * 2 ^ 2148)
  unfolding mean_of sum
  mean_minus h = rw (eq-eqb (length p) 66 P, eq-eqb (length m) 66 M, lt-ltb 0 n N, lt-ltb n (2 ^ 32) F, lt-ltb (value p) (value m) h)
