-- Two texts are compared from the front: what is left to compare after i equal bytes. Clients cite onward, different, same_end, same_short and same_is. Assumes nothing.
use Rattle.std.specs.Prelude.{ℕ, suc, ◌+◌, ◌<◌, ◌≤◌, ◌≡◌, refl, Bool, true, false, ◌&&◌, List, [], ◌∷◌, length, get_or, drop, eqb}
use Rattle.std.proofs.Common.{ap, sym, ◌∙◌, add-one, drop_of_length-le, drop-cons, eq-eqb, ne_eqb}
use Rattle.std.proofs.Math.Bool.{and-false}
use Rattle.std.proofs.lemmas.Slice.Eq.{bytes_eq-Decides}
use Rattle.shell.specs.Words.{same_bytes}

-- the bytes at i decide, or what is behind them
same_from : (s t : List ℕ) (i : ℕ) → i < length s → i < length t → same_bytes (drop i s) (drop i t) ≡ (eqb (get_or s i 0) (get_or t i 0) && same_bytes (drop (i + 1) s) (drop (i + 1) t))
same_from s t i h k = rw (add-one, drop-cons s i 0, drop-cons t i 0)

-- where the bytes at i are the same, what is behind them decides
pub onward : (s t : List ℕ) (i : ℕ) → i < length s → i < length t → get_or s i 0 ≡ get_or t i 0 → same_bytes (drop i s) (drop i t) ≡ same_bytes s t → same_bytes (drop (i + 1) s) (drop (i + 1) t) ≡ same_bytes s t
onward s t i h k e w = rw (eq-eqb _ _ e) at (sym (same_from s t i h k)) ∙ w

-- where they differ, the texts do
pub different : (s t : List ℕ) (i : ℕ) → i < length s → i < length t → (get_or s i 0 ≡ get_or t i 0 → ⊥) → same_bytes (drop i s) (drop i t) ≡ same_bytes s t → same_bytes s t ≡ false
different s t i h k e w = sym w ∙ same_from s t i h k ∙ rw (ne_eqb _ _ e)

-- behind the end nothing differs
pub same_end : (s t : List ℕ) (i : ℕ) → length s ≤ i → length t ≤ i → same_bytes (drop i s) (drop i t) ≡ true
same_end s t i h k = rw (drop_of_length-le s h, drop_of_length-le t k)

-- texts of two lengths are not the same
pub same_short : (s t : List ℕ) → (length s ≡ length t → ⊥) → same_bytes s t ≡ false
same_short [] [] h = absurd (h refl)
same_short [] (y ∷ ys) h = refl
same_short (x ∷ xs) [] h = refl
same_short (x ∷ xs) (y ∷ ys) h = rw (same_short xs ys (λ e. h (ap suc e))) (and-false (eqb x y))

-- texts that are the same byte for byte are one text
pub same_is : (s t : List ℕ) → same_bytes s t ≡ true → s ≡ t
same_is s t = (bytes_eq-Decides s t).0
