-- A list of words walked from its end, as the sums by Horner's rule do it: what is left of the list, and what has come of the words after that. Assumes nothing.
use Rattle.std.proofs.Common.{◌≡◌, ℕ, ◌+◌, ◌-◌, ◌≤◌, List, [], ◌∷◌, length, refl, ap, le_trans, arith}
use Rattle.std.specs.List.{push}
use Rattle.functions.specs.Words.{horner, falling, upper, Falls}

-- the step f from the last word to the first, begun at a
abbrev pub back : (ℕ → ℕ → ℕ) → List ℕ → ℕ → ℕ
back f [] a = a
back f (c ∷ cs) a = f c (back f cs a)

pub back-push : (f : ℕ → ℕ → ℕ) (cs : List ℕ) (c a : ℕ) → back f (push cs c) a ≡ back f cs (f c a)
back-push f [] c a = refl
back-push f (d ∷ cs) c a = ap (f d) (back-push f cs c a)

pub back_none : (f : ℕ → ℕ → ℕ) (cs : List ℕ) (a : ℕ) → length cs ≡ 0 → back f cs a ≡ a
back_none f [] a h = refl
back_none f (c ∷ cs) a h = absurd (omega arith)

-- one step of either sum
abbrev pub added : ℕ → ℕ → ℕ → ℕ
added y c a = c + upper a y

abbrev pub taken : ℕ → ℕ → ℕ → ℕ
taken y c a = c - upper a y

pub back_horner : (y : ℕ) (cs : List ℕ) → back (added y) cs 0 ≡ horner cs y
unfolding horner
back_horner y [] = refl
back_horner y (c ∷ cs) = ap (added y c) (back_horner y cs)

pub back_falling : (y : ℕ) (cs : List ℕ) → back (taken y) cs 0 ≡ falling cs y
unfolding falling
back_falling y [] = refl
back_falling y (c ∷ cs) = ap (taken y c) (back_falling y cs)

-- what is left falls, from t and to a
abbrev pub FallsTo : ℕ → List ℕ → ℕ → Type 0
FallsTo t [] a = a ≤ t
FallsTo t (c ∷ cs) a = (c ≤ t) × FallsTo c cs a

pub falls_to_zero : (t : ℕ) (cs : List ℕ) → Falls t cs → FallsTo t cs 0
falls_to_zero t [] h = omega arith
falls_to_zero t (c ∷ cs) h = (h.0, falls_to_zero c cs h.1)

-- the word from the end, and the rest that falls to whatever is at most it
pub last_falls : (t : ℕ) (cs : List ℕ) (c a : ℕ) → FallsTo t (push cs c) a → (a ≤ c) × (c ≤ t) × ((b : ℕ) → b ≤ c → FallsTo t cs b)
last_falls t [] c a h = (h.1, h.0, λ b l. le_trans l h.0)
last_falls t (d ∷ cs) c a h =
    let r = last_falls d cs c a h.1 in
    (r.0, le_trans r.1 h.0, λ b l. (h.0, r.2 b l))
