-- What definitions say of a list as a whole, and of one entry of a list of floats. Clients cite `at` and every. Definitions only.
use Rattle.std.specs.Prelude.{ℕ, Bool, true, ◌&&◌, List, [], ◌∷◌, get_or, Float}
use Rattle.std.specs.Float.{nan}

-- entry i of a list of floats
abbrev pub «at» : List Float → ℕ → Float
«at» m i = get_or m i nan

-- each element passes the test
abbrev pub every : {A : Type 0} → (A → Bool) → List A → Bool
every test [] = true
every test (x ∷ xs) = test x && every test xs
