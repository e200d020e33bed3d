-- The digits of a long number that a float keeps, and two more. Clients cite nothing here.
use Rattle.std.specs.Prelude.{◌≡◌, ℕ, ◌+◌, ◌-◌, ◌*◌, ◌/◌, ◌%◌, ◌^◌, ◌<◌, ◌≤◌, min, Bool, cond, ◌&&◌, ◌⊎◌, List, drop, ◌==◌, slice_index}
use Rattle.std.specs.Float.Ieee.{size}
use Rattle.exact.specs.Limbs.{value}

-- how many of q's digits above 2 ^ 1074 a float drops
unfoldable pub dropped_of : ℕ → ℕ
dropped_of q = size (q / 2 ^ 1074) - 53

-- w with its lowest digit set, unless nothing is left below it
abbrev pub marked : Bool → ℕ → ℕ
marked clear w = cond clear w (w / 2 * 2 + 1)

-- w / 4 to the nearest whole number, and to the even one of two
abbrev pub nearest_fourth : ℕ → ℕ
nearest_fourth w = (w + 1 + w / 4 % 2) / 4

-- the bits of n units of 2 ^ (k - 1074), up to infinity's
abbrev pub pattern_of : ℕ → ℕ → ℕ
pattern_of k n = min (k * 2 ^ 52 + n) (2047 * 2 ^ 52)

-- w is q's leading digits, k places above 1072
pub record Leads (q : ℕ) (even : Bool) (k w : ℕ) : Type 0 where
  pub places : k ≡ dropped_of q
  pub few : k ≤ 3097
  pub word : w ≡ marked (even && q % 2 ^ (1072 + k) == 0) (q / 2 ^ (1072 + k))
  pub short : w < 2 ^ 55

-- the limbs above h are 0, and h's own is not, unless h is 17
pub record Top (l : List ℕ) (h : ℕ) : Type 0 where
  pub least : 17 ≤ h
  pub most : h ≤ 65
  pub above : value (drop (h + 1) l) ≡ 0
  pub some : (h ≡ 17) ⊎ (0 < slice_index l h)
