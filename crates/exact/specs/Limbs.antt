-- The number that a row of limbs stands for, and the row of a number. Clients cite value and limbs_of; Laws/Limbs.antt says that each gives the other. Definitions only.
use Rattle.std.specs.Prelude.{ℕ, zero, suc, ◌+◌, ◌*◌, ◌/◌, ◌%◌, ◌^◌, List, [], ◌∷◌}

-- limbs are digits in base 2 ^ 64, the lowest first
unfoldable pub value : List ℕ → ℕ
value [] = 0
value (w ∷ ws) = w + 2 ^ 64 * value ws

-- the k lowest digits of n in base 2 ^ 64
unfoldable pub limbs_of : ℕ → ℕ → List ℕ
limbs_of zero n = []
limbs_of (suc k) n = n % 2 ^ 64 ∷ limbs_of k (n / 2 ^ 64)
