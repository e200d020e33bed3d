-- The lengths with which a run works: N from 1 to 48, vectors of N, matrices of N (N + 1). Clients cite fits and Sized.
use Rattle.std.specs.Prelude.{ℕ, ◌+◌, ◌*◌, ◌≤◌, ◌≡◌, Bool, ◌&&◌, eqb, leb}
use Rattle.numbers.specs.Limits.{most_unknowns}

-- a vector of n numbers and a matrix for it
pub record Square (n matrix : ℕ) : Type 0 where
  pub some : 1 ≤ n
  pub small : n ≤ most_unknowns
  pub cells : matrix ≡ n * (n + 1)

pub record Sized (n accepted base elimination system : ℕ) : Type 0 where
  pub some : 1 ≤ n
  pub small : n ≤ most_unknowns
  pub vectors : accepted ≡ n
  pub bases : base ≡ n * (n + 1)
  pub works : elimination ≡ n * (n + 1)
  pub systems : system ≡ n * (n + 1)

-- the same as a test
unfoldable pub fits : ℕ → ℕ → ℕ → ℕ → ℕ → Bool
fits n accepted base elimination system =
    leb 1 n && (leb n most_unknowns && (eqb accepted n && (eqb base (n * (n + 1)) && (eqb elimination (n * (n + 1)) && eqb system (n * (n + 1))))))
