-- What the inner functions' contracts cite besides Solve.antt: an absolute value that may be -0.0, rows that a column need not visit, rows that are listed to be cleared, and unknowns that are all finite.
use Rattle.std.specs.Prelude.{ℕ, ◌+◌, ◌-◌, ◌*◌, ◌≤◌, ◌<◌, ◌≡◌, true, cond, List, ltb, length, get_or, Float}
use Rattle.std.specs.Float.{binary64}
use Rattle.std.specs.Float.Ieee.{neg, add, mul, lt, eq}
use Rattle.std.specs.Float.Ieee.Scale.{finite}
use Rattle.num.specs.Floats.{nought}
use Rattle.loops.specs.Loop.{turns}
use Rattle.num.specs.Lists.{«at»}
use Rattle.solve.specs.Solve.{row_start, reduced, clear_one}

-- x without its sign; a zero keeps it
unfoldable pub unsigned_of : Float → Float
unsigned_of x = cond (lt x nought) (neg x) x

-- the rows from r up to n are zero in column k
abbrev pub Empty : ℕ → ℕ → ℕ → List Float → Type 0
Empty n k r m = (q : ℕ) → r ≤ q → q < n → eq («at» m (row_start n q + k)) nought ≡ true

-- the larger of the best so far and the size v of row r; the best so far on a tie
abbrev pub pick : ℕ → Float → Float × ℕ → Float × ℕ
pick r v best = cond (lt best.0 v) (v, r) best

-- the row of the larger of two sizes, the earlier row on a tie
unfoldable pub first_of : Float × ℕ → Float × ℕ → ℕ
first_of a b = cond (lt a.0 b.0) b.1 (cond (lt b.0 a.0) a.1 (cond (ltb b.1 a.1) b.1 a.1))

-- the first c numbers of a list are rows
abbrev pub Rows : ℕ → ℕ → List ℕ → Type 0
Rows n c list = (i : ℕ) → i < c → get_or list i 0 < n

-- the row that a list has at i, cleared in column k
abbrev pub clear_listed : ℕ → ℕ → List ℕ → ℕ → List Float → List Float
clear_listed n k list i m = reduced (row_start n k + k) (row_start n (get_or list i 0) + k) (n + 1 - k) m

-- the first c numbers of a list are rows enough: to clear column k in the rows from k + 1 up to r, of m or of any matrix that is zero in this column wherever m is
abbrev pub Lists : ℕ → ℕ → ℕ → ℕ → List ℕ → List Float → Type 0
Lists n k r c list m = (t : List Float) → n * (n + 1) ≤ length t → ((q : ℕ) → k < q → q < r → eq («at» m (row_start n q + k)) nought ≡ true → eq («at» t (row_start n q + k)) nought ≡ true) → turns c (clear_listed n k list) t ≡ turns (r - (k + 1)) (clear_one (row_start n) n k) t

-- the unknowns from i up to n are finite
abbrev pub AllFinite : ℕ → ℕ → List Float → Type 0
AllFinite i n x = (j : ℕ) → i ≤ j → j < n → finite («at» x j) ≡ true

-- s and four more terms, of the entries from a on and the unknowns from c on
abbrev pub one_more : List Float → List Float → ℕ → ℕ → Float → Float
one_more m x a c s = add binary64 s (mul binary64 («at» m a) («at» x c))

unfoldable pub four_more : List Float → List Float → ℕ → ℕ → Float → Float
four_more m x a c s = one_more m x (a + 3) (c + 3) (one_more m x (a + 2) (c + 2) (one_more m x (a + 1) (c + 1) (one_more m x a c s)))
