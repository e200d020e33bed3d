-- Gaussian elimination with partial pivoting and back substitution on N rows of N + 1 floats, row after row in one list: document 01, "Solving". Definitions only.
-- Clients cite solve_of, its Solved, solution, eliminated and next_abs; Laws/Solve.antt has what holds of them.
-- `row` says where each row starts, so that rows may stand in any order.
use Rattle.std.specs.Prelude.{ℕ, ◌+◌, ◌-◌, ◌*◌, Bool, true, false, cond, ◌&&◌, List, ◌++◌, leb, ltb, eqb, length, set, take, drop, replicate, Float}
use Rattle.std.specs.Float.{binary64}
use Rattle.std.specs.Float.Ieee.{add, sub, mul, div, lt, eq}
use Rattle.std.specs.Float.Ieee.Scale.{finite}
use Rattle.numbers.specs.Limits.{most_unknowns}
use Rattle.numbers.specs.Refusals.{by_order, by_room}
use Rattle.num.specs.Floats.{nought, absolute_of}
use Rattle.num.specs.Lists.{«at»}
use Rattle.loops.specs.Loop.{turns, down}

-- where row r of rows of n + 1 starts
abbrev pub row_start : ℕ → ℕ → ℕ
row_start n r = r * (n + 1)

-- ---- one column

-- "Pivot: largest absolute entry at or below, earliest on a tie; a NaN is never larger": the turn at row k + i, over the largest so far and its row
abbrev pub larger : (ℕ → ℕ) → ℕ → List Float → ℕ → Float × ℕ → Float × ℕ
larger row k m i best =
    cond (lt best.0 (absolute_of («at» m (row (k + i) + k)))) (absolute_of («at» m (row (k + i) + k)), k + i) best

-- "Where nothing exceeds zero the column's own row is taken, zero or NaN"
unfoldable pub index_of_next_abs : (ℕ → ℕ) → ℕ → ℕ → List Float → ℕ
index_of_next_abs row n k m = (turns (n - k) (larger row k m) (nought, k)).1

-- entries a + i and b + i change places, for each i below len
abbrev pub swap_one : ℕ → ℕ → ℕ → List Float → List Float
swap_one a b i m = set (set m (a + i) («at» m (b + i))) (b + i) («at» m (a + i))

unfoldable pub swapped : ℕ → ℕ → ℕ → List Float → List Float
swapped a b len m = turns len (swap_one a b) m

-- entry to + i less entry from + i times ratio, in two roundings, for each i below len
abbrev pub less_one : ℕ → ℕ → Float → ℕ → List Float → List Float
less_one from to ratio i m = set m (to + i) (sub binary64 («at» m (to + i)) (mul binary64 («at» m (from + i)) ratio))

unfoldable pub less_scaled : ℕ → ℕ → ℕ → Float → List Float → List Float
less_scaled from to len ratio m = turns len (less_one from to ratio) m

-- the entries from `to` on are cleared by those from `from` on, the pivot: "Zero entries below are skipped"
unfoldable pub reduced : ℕ → ℕ → ℕ → List Float → List Float
reduced from to len m =
    cond (eq («at» m to) nought) m (less_scaled from to len (div binary64 («at» m to) («at» m from)) m)

-- each row below row k, from column k through n
abbrev pub clear_one : (ℕ → ℕ) → ℕ → ℕ → ℕ → List Float → List Float
clear_one row n k i m = reduced (row k + k) (row (k + 1 + i) + k) (n + 1 - k) m

unfoldable pub cleared : (ℕ → ℕ) → ℕ → ℕ → List Float → List Float
cleared row n k m = turns (n - (k + 1)) (clear_one row n k) m

-- column k, and whether elimination goes on: "A zero pivot stops elimination"
unfoldable pub column : (ℕ → ℕ) → ℕ → ℕ → List Float → Bool × List Float
column row n k m =
    let p = index_of_next_abs row n k m in
    cond (eq («at» m (row p + k)) nought) (false, m) (true, cleared row n k (swapped (row p) (row k) (n + 1) m))

-- ---- "Columns 1 to N-2"

-- the turn at column i + 1, unless an earlier column stopped it
abbrev pub column_next : (ℕ → ℕ) → ℕ → ℕ → Bool × List Float → Bool × List Float
column_next row n i s =
    elim s.0 [
      | true ↦ column row n (i + 1) s.1
      | false ↦ s
    ]

unfoldable pub eliminated : ℕ → List Float → List Float
eliminated n m = (turns (n - 2) (column_next (row_start n) n) (true, m)).1

-- ---- "Back substitution sums in rising column order from 0.0"

-- the sum of m[i][j] * x[j] over j from i + 1 to n - 1
abbrev pub add_one : (ℕ → ℕ) → List Float → List Float → ℕ → ℕ → Float → Float
add_one row m x i j s = add binary64 s (mul binary64 («at» m (row i + (i + 1 + j))) («at» x (i + 1 + j)))

unfoldable pub dot : (ℕ → ℕ) → ℕ → List Float → List Float → ℕ → Float
dot row n m x i = turns (n - (i + 1)) (add_one row m x i) nought

-- x[i] = (m[i][n] - sum) / m[i][i]
unfoldable pub unknown : (ℕ → ℕ) → ℕ → List Float → List Float → ℕ → Float
unknown row n m x i = div binary64 (sub binary64 («at» m (row i + n)) (dot row n m x i)) («at» m (row i + i))

-- "If the last unknown is not finite it becomes 0.0"
unfoldable pub last_unknown : (ℕ → ℕ) → ℕ → List Float → Float
last_unknown row n m =
    let q = div binary64 («at» m (row (n - 1) + n)) («at» m (row (n - 1) + (n - 1))) in
    cond (finite q) q nought

-- x[i + 1], from the unknowns after it
abbrev pub back_one : (ℕ → ℕ) → ℕ → List Float → ℕ → List Float → List Float
back_one row n m i x = set x (i + 1) (unknown row n m x (i + 1))

-- the unknowns n - 1, n - 2, .., 1 in this order; unknown 0, the ground's, is 0.0 unless it is the last
unfoldable pub substituted : (ℕ → ℕ) → ℕ → List Float → List Float
substituted row n m = down (n - 2) (back_one row n m) (set (replicate n nought) (n - 1) (last_unknown row n m))

-- ---- the whole

unfoldable pub solution : ℕ → List Float → List Float
solution n m = substituted (row_start n) n (eliminated n m)

-- refusal 1: "no node, or N above 48"; refusal 5: "a lent buffer too short"; 0: it runs
abbrev pub solve_refusal : ℕ → ℕ → ℕ → ℕ
solve_refusal n matrix vector = cond (leb 1 n && leb n most_unknowns) (cond (leb (n * (n + 1)) matrix && leb n vector) 0 by_room) by_order

-- the answer, and both buffers afterwards
pub record Solved : Type 0 where
  pub refusal : ℕ
  pub matrix : List Float
  pub vector : List Float

abbrev pub solved_as : ℕ → List Float → List Float → Solved
solved_as r m x = record { refusal = r; matrix = m; vector = x }

-- a refusal changes no buffer; otherwise the first n (n + 1) floats of the matrix are the eliminated ones, the first n of the vector the solution, and nothing past them changes
unfoldable pub solve_of : ℕ → List Float → List Float → Solved
solve_of n m x =
    let r = solve_refusal n (length m) (length x) in
    let size = n * (n + 1) in
    cond (eqb r 0) (solved_as 0 (eliminated n (take size m) ++ drop size m) (solution n (take size m) ++ drop n x)) (solved_as r m x)

-- the search by itself, in a matrix of n rows: k where k is no row of it, or it is too short or too large for one
unfoldable pub next_abs : ℕ → ℕ → List Float → ℕ
next_abs n k m = cond (leb n most_unknowns && (ltb k n && leb (n * (n + 1)) (length m))) (index_of_next_abs (row_start n) n k m) k
