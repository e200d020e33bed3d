-- A stamp is the list of entries that it writes. Clients cite Write, adds, puts, lands, written and stamped.
-- The system is n rows of n + 1 floats, row after row in one list; column n is the right side.
use Rattle.std.specs.Prelude.{ℕ, ◌+◌, ◌*◌, Bool, cond, ◌&&◌, not, List, [], ◌∷◌, get_or, set, eqb, leb, ltb, Float}
use Rattle.std.specs.Float.Ieee as Ieee
use Rattle.std.specs.Float.{nan, binary64}
use Rattle.numbers.specs.Limits.{most_unknowns}

-- what becomes of an entry: v is added, or v is assigned. A subtraction is the addition of the negated value: the same bits.
pub data Change : Type 0 where
  add : Float → Change
  assign : Float → Change

pub record Write : Type 0 where
  pub row : ℕ
  pub column : ℕ
  pub change : Change

abbrev pub adds : ℕ → ℕ → Float → Write
adds r c v = record { row = r; column = c; change = add v }

abbrev pub puts : ℕ → ℕ → Float → Write
puts r c v = record { row = r; column = c; change = assign v }

abbrev pub changed : Change → Float → Float
changed (add v) x = Ieee.add binary64 x v
changed (assign v) x = v

-- "Row and column 0 stay zero; entries for ground are skipped": the entry is neither ground's nor outside the system
abbrev pub lands : ℕ → ℕ → ℕ → Bool
lands n r c = not (eqb r 0) && (not (eqb c 0) && (ltb r n && (leb c n && leb n most_unknowns)))

-- where an entry stands
abbrev pub place : ℕ → Write → ℕ
place n x = x.row * (n + 1) + x.column

-- where a stamp writes entry c of row r in a list of len floats: at its place, or past the end, which is nowhere
abbrev pub spot_of : ℕ → ℕ → ℕ → ℕ → ℕ
spot_of len n r c = cond (lands n r c) (r * (n + 1) + c) len

-- one entry written; past the end of the list there is nothing to write
unfoldable pub written : ℕ → Write → List Float → List Float
written n x m = cond (lands n x.row x.column) (set m (place n x) (changed x.change (get_or m (place n x) nan))) m

-- the entries of a list written, in its order
unfoldable pub stamped : ℕ → List Write → List Float → List Float
stamped n [] m = m
stamped n (x ∷ xs) m = stamped n xs (written n x m)
