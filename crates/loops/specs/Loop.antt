-- What a loop that counts leaves behind, and the lists that copying, filling and putting a row make. Definitions only; Laws/Loop.antt has what clients cite of them.
use Rattle.std.specs.Prelude.{ℕ, zero, suc, ◌+◌, min, Bool, cond, List, ◌∷◌, ◌++◌, leb, length, take, drop, replicate, Float}
use Rattle.num.specs.Floats.{nought}

-- `turns n f s` is what `for i in 0..n { s = f(i, s) }` makes of s: the turns 0, 1, .., n - 1 of the body f, in that order
abbrev pub turns : {S : Type 0} → ℕ → (ℕ → S → S) → S → S
turns zero f s = s
turns (suc n) f s = f n (turns n f s)

-- `down n f s` is what `for i in (0..n).rev() { s = f(i, s) }` makes of s: the turns n - 1, .., 1, 0
abbrev pub down : {S : Type 0} → ℕ → (ℕ → S → S) → S → S
down zero f s = s
down (suc n) f s = down n f (f n s)

-- the first i elements of s, and d from there on
abbrev pub front : {A : Type 0} → ℕ → List A → List A → List A
front i s d = take i s ++ drop i d

-- d after s was copied over its front, as far as both go
unfoldable pub copied : {A : Type 0} → List A → List A → List A
copied s d = front (min (length s) (length d)) s d

-- a list of zeros as long as this one
abbrev pub zeros_like : List Float → List Float
zeros_like x = replicate (length x) nought

-- a row, the time t and then the vector v, put at a place of a buffer that has room for it
unfoldable pub row_at : ℕ → Float → List Float → List Float → List Float
row_at place t v rows = take place rows ++ (t ∷ (v ++ drop (place + 1 + length v) rows))

-- whether it has
abbrev pub row_fits : ℕ → List Float → List Float → Bool
row_fits place v rows = leb (place + 1 + length v) (length rows)

-- the buffer after a row was put: as it was where the row does not fit
unfoldable pub row_put : ℕ → Float → List Float → List Float → List Float
row_put place t v rows = cond (row_fits place v rows) (row_at place t v rows) rows
