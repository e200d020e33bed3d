-- The number that limbs of 32 bits stand for. Clients cite nothing here.
use Rattle.std.specs.Prelude.{◌≡◌, List, [], ◌∷◌, ℕ, ◌+◌, ◌*◌, ◌^◌, ◌<◌, length, get_or}

-- digits in base 2 ^ 32, the lowest first
unfoldable pub value : List ℕ → ℕ
value [] = 0
value (w ∷ ws) = w + 2 ^ 32 * value ws

-- each limb has 32 bits
abbrev pub Few : List ℕ → Type 0
Few l = (j : ℕ) → get_or l j 0 < 2 ^ 32

-- l is k limbs, and they stand for n
pub record Holds (k : ℕ) (l : List ℕ) (n : ℕ) : Type 0 where
  pub few : Few l
  pub limbs : length l ≡ k
  pub is : value l ≡ n

-- the limbs m are those of l over d, with r left
pub record Divided (l : List ℕ) (d r : ℕ) (m : List ℕ) : Type 0 where
  pub few : Few m
  pub limbs : length m ≡ length l
  pub is : value m * d + r ≡ value l
  pub left : r < d
