-- A row of limbs while a number is added to it: what the functions behind the public ones promise each other.
use Rattle.std.specs.Prelude.{◌≡◌, ℕ, ◌+◌, ◌*◌, ◌^◌, ◌<◌, ◌≤◌, List, length}
use Rattle.numbers.specs.Limits.{sum_limbs}
use Rattle.exact.specs.Limbs.{value}
use Rattle.exact.specs.Exact.{Exact}

-- digits and the place of the lowest, as a float has them
pub record Small (digits place : ℕ) : Type 0 where
  pub few : digits < 2 ^ 53
  pub low : place ≤ 2045

-- no product of two finite floats has more units
unfoldable pub cap : ℕ
cap = 2 ^ 4196

-- the limbs have room for a product
pub record Spacious (l : List ℕ) : Type 0 where
  pub limbs : sum_limbs ≤ length l
  pub room : value l + cap < 2 ^ (64 * length l)

-- the limbs of a row, and they have it
pub record Room (l : List ℕ) : Type 0 where
  pub limbs : length l ≡ sum_limbs
  pub room : value l < 2 ^ 4223

-- l has become l' by adding n
pub record Sum (l : List ℕ) (n : ℕ) (l' : List ℕ) : Type 0 where
  pub limbs : length l' ≡ length l
  pub sum : value l' ≡ value l + n

-- l has become l' by adding n at limb i, but for the carry that is left for the limb above
pub record Carried (l : List ℕ) (i n carry : ℕ) (l' : List ℕ) : Type 0 where
  pub limbs : length l' ≡ length l
  pub sum : value l' + carry * 2 ^ (64 * (i + 1)) ≡ value l + n * 2 ^ (64 * i)

-- w is a row of one limb more that stands for the same
pub record Wide (l w : List ℕ) : Type 0 where
  pub limbs : length w ≡ sum_limbs + 1
  pub same : value w ≡ value l

-- p and m have become p' and m' by adding e
pub record Adds (p m : List ℕ) (e : Exact) (p' m' : List ℕ) : Type 0 where
  pub plus : Sum p e.plus p'
  pub minus : Sum m e.minus m'
