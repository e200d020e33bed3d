-- What the judge answers. Clients cite judge_of, judge_refusal, Numbers and numbers_of, and the laws in Laws/Judge.antt, here and in proofs, that say exactly when. Definitions only.
use Rattle.std.specs.Prelude.{◌≡◌, ℕ, zero, suc, ◌+◌, ◌*◌, ◌≤◌, ◌<◌, Bool, true, false, not, cond, ◌&&◌, ◌||◌, List, ltb, eqb, length, take, Float, Result, Ok, Err, ⊤}
use Rattle.std.specs.Result.{result_and}
use Rattle.std.specs.Float.Ieee.{lt}
use Rattle.std.specs.Float.Ieee.Scale.{finite}
use Rattle.numbers.specs.Limits.{most_unknowns}
use Rattle.numbers.specs.Refusals.{number_of}
use Rattle.numbers.specs.declared.refusal.Refusal.{Refusal}
use Rattle.numbers.specs.declared.refusal.Refusal.TheVariants.{Order, Room, Tolerance}
use Rattle.num.specs.Floats.{nought}
use Rattle.num.specs.Lists.{«at», every}
use Rattle.exact.specs.Exact.{Exact, none, times, whole, added, opposite, within}
use Rattle.judge.specs.declared.Judged.{Judged}
use Rattle.judge.specs.declared.Judged.TheVariants.{Accepted, Rejected}

-- ---- a row: n coefficients, then its right side

-- the first j coefficients of the row that starts at `from`, times the vector, added up without any rounding
unfoldable pub total : List Float → List Float → ℕ → ℕ → Exact
total m x from zero = none
total m x from (suc j) = added (total m x from j) (times («at» m (from + j)) («at» x j))

-- row i's coefficients times the vector, less the right side
unfoldable pub residual : ℕ → List Float → List Float → ℕ → Exact
residual n m x i = added (total m x (i * (n + 1)) n) (opposite (whole («at» m (i * (n + 1) + n))))

-- ---- the rows

-- row i stays within its tolerance
abbrev pub holds : ℕ → List Float → List Float → List Float → ℕ → Bool
holds n m x t i = within (residual n m x i) («at» t i)

-- k rows from row i on, each of which holds or not: the first that does not is named
unfoldable pub named : (ℕ → Bool) → ℕ → ℕ → Judged
named p zero i = Accepted
named p (suc k) i = cond (p i) (named p k (i + 1)) (Rejected i)

-- ---- the checks

-- a number is finite; a tolerance is also not below zero, which -0.0 is not
abbrev pub allowed : Bool → Float → Bool
allowed false x = finite x
allowed true x = finite x && not (lt x nought)

-- what stands against judging. Order: no row, or more than 48; Room: a system below N(N+1), a vector or tolerances below N; Tolerance: a number within those lengths that is not allowed
unfoldable pub judge_refusal : ℕ → List Float → List Float → List Float → Result ⊤ Refusal
judge_refusal n m x t =
    cond (eqb n 0 || ltb most_unknowns n) (Err Order)
    (cond (ltb (length m) (n * (n + 1)) || (ltb (length x) n || ltb (length t) n)) (Err Room)
    (cond (every (allowed false) (take (n * (n + 1)) m) && (every (allowed false) (take n x) && every (allowed true) (take n t))) (Ok tt) (Err Tolerance)))

-- ---- the judge
unfoldable pub judge_of : ℕ → List Float → List Float → List Float → Result Judged Refusal
judge_of n m x t = result_and (judge_refusal n m x t) (Ok (named (holds n m x t) n 0))

-- ---- the numbers of an answer

-- the refusal, 0 if none, and the row: the first that does not hold, n if every one does, 0 if refused
pub record Numbers : Type 0 where
  pub refusal : ℕ
  pub row : ℕ

abbrev pub numbers_of : ℕ → Result Judged Refusal → Numbers
numbers_of n (Ok Accepted) = record { refusal = 0; row = n }
numbers_of n (Ok (Rejected i)) = record { refusal = 0; row = i }
numbers_of n (Err k) = record { refusal = number_of k; row = 0 }

-- ---- what is not refused

-- n rows can be read, and all their numbers are finite
pub record Readable (n : ℕ) (m x : List Float) : Type 0 where
  pub most : n ≤ most_unknowns
  pub system : n * (n + 1) ≤ length m
  pub vector : n ≤ length x
  pub finite_system : every (allowed false) (take (n * (n + 1)) m) ≡ true
  pub finite_vector : every (allowed false) (take n x) ≡ true

-- and each has a tolerance
pub record Given (n : ℕ) (m x t : List Float) : Type 0 where
  pub some : 0 < n
  pub rows : Readable n m x
  pub tolerances : n ≤ length t
  pub no_less : every (allowed true) (take n t) ≡ true
