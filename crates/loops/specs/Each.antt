-- Lists that hold one thing, or one list, for each of the numbers 0, 1, .. below a count. Definitions only; Laws/Each.antt has what clients cite of them.
use Rattle.std.specs.Prelude.{ℕ, zero, suc, List, [], ◌∷◌, ◌++◌}

-- f 0, f 1, .., n of them
abbrev pub each : {A : Type 0} → (ℕ → A) → ℕ → List A
each f zero = []
each f (suc n) = each f n ++ (f n ∷ [])

-- the lists f 0, f 1, .., n of them, end to end
abbrev pub joined : {A : Type 0} → (ℕ → List A) → ℕ → List A
joined f zero = []
joined f (suc n) = joined f n ++ f n
