-- Rows of limbs on the way to a mean: what the functions behind the public one promise each other. Clients cite nothing here.
use Rattle.std.specs.Prelude.{◌≡◌, ℕ, ◌+◌, ◌*◌, ◌<◌, List, length}
use Rattle.numbers.specs.Limits.{sum_limbs}
use Rattle.exact.specs.Limbs.{value}

-- l is a row of limbs that stand for n
pub record Row (l : List ℕ) (n : ℕ) : Type 0 where
  pub limbs : length l ≡ sum_limbs
  pub is : value l ≡ n

-- the limbs m are those of l over d, with r left
pub record Divided (l : List ℕ) (d r : ℕ) (m : List ℕ) : Type 0 where
  pub limbs : length m ≡ length l
  pub is : value m * d + r ≡ value l
  pub left : r < d
