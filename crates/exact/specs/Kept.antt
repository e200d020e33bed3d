-- What keeping a sum answers and leaves in the two rows of limbs that the caller lends. Clients cite rows_of, kept_of, within_of; the laws about many terms are in Laws/Sums.antt. Definitions only.
use Rattle.std.specs.Prelude.{ℕ, ◌+◌, ◌^◌, Bool, cond, ◌&&◌, List, length, ◌==◌, nat_lt, Float, Result, Ok, Err, ⊤}
use Rattle.std.specs.Float.Ieee.Scale.{finite}
use Rattle.numbers.specs.Limits.{sum_limbs}
use Rattle.exact.specs.Limbs.{value, limbs_of}
use Rattle.exact.specs.Exact.{Exact, times, within}
use Rattle.exact.specs.declared.Unkept.{Unkept}
use Rattle.exact.specs.declared.Unkept.TheVariants.{NotFinite, NoRoom, WrongLength}

-- a row is so many limbs
abbrev pub is_row : List ℕ → Bool
is_row l = length l == sum_limbs

-- a row has room while it is below 2 ^ 4223 units: for 2 ^ 27 products at least
abbrev pub has_room : List ℕ → Bool
has_room l = nat_lt (value l) (2 ^ 4223)

-- the answer, and the rows afterwards
pub record Rows : Type 0 where
  pub answer : Result ⊤ Unkept
  pub plus : List ℕ
  pub minus : List ℕ

abbrev pub rows_of : Result ⊤ Unkept → List ℕ → List ℕ → Rows
rows_of r p m = record { answer = r; plus = p; minus = m }

-- the exact number that two rows keep
abbrev pub held : List ℕ → List ℕ → Exact
held p m = record { plus = value p; minus = value m }

-- what stands against adding x times y to p less m
unfoldable pub check_of : List ℕ → List ℕ → Float → Float → Result ⊤ Unkept
check_of p m x y =
    cond (is_row p && is_row m) (cond (finite x && finite y) (cond (has_room p && has_room m) (Ok tt) (Err NoRoom)) (Err NotFinite)) (Err WrongLength)

-- e is added, or nothing changes
abbrev pub leave : Result ⊤ Unkept → List ℕ → List ℕ → Exact → Rows
leave (Ok t) p m e = rows_of (Ok t) (limbs_of sum_limbs (value p + e.plus)) (limbs_of sum_limbs (value m + e.minus))
leave (Err u) p m e = rows_of (Err u) p m

-- p less m, with x times y added
unfoldable pub kept_of : List ℕ → List ℕ → Float → Float → Rows
kept_of p m x y = leave (check_of p m x y) p m (times x y)

-- whether p less m is in size at most t. What is not two rows, or not finite, is within nothing
unfoldable pub within_of : List ℕ → List ℕ → Float → Bool
within_of p m t = (is_row p && is_row m) && (finite t && within (held p m) t)
