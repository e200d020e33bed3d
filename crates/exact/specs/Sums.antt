-- Two rows that keep a sum of many terms. Clients cite Sums; its laws are in Laws/Sums.antt. Definitions only.
use Rattle.std.specs.Prelude.{◌≡◌, ℕ, ◌*◌, ◌≤◌, List}
use Rattle.numbers.specs.Limits.{sum_limbs}
use Rattle.exact.specs.Limbs.{limbs_of}
use Rattle.exact.specs.Exact.{Exact}
use Rattle.exact.specs.Rows.{cap}

-- p and m are the rows of e, a sum of at most k products
pub record Sums (k : ℕ) (e : Exact) (p m : List ℕ) : Type 0 where
  pub plus_row : p ≡ limbs_of sum_limbs e.plus
  pub minus_row : m ≡ limbs_of sum_limbs e.minus
  pub plus_few : e.plus ≤ k * cap
  pub minus_few : e.minus ≤ k * cap
