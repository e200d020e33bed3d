-- What a store, or a part written in its place, makes of a list with one thing, or one list, for each number below a count. Clients cite all of it. Assumes nothing.
use Rattle.std.specs.Prelude.{◌≡◌, refl, List, [], ◌∷◌, ◌++◌, ℕ, zero, suc, ◌+◌, ◌*◌, ◌<◌, ◌≤◌, length, get_or, take, drop, set}
use Rattle.std.proofs.Common.{sym, ap, ◌∙◌, ⊎_elim, append_assoc, suc-mul, mul-le-mul_right, add-one, arith, length-append, drop-drop, take_at, drop_at, get_or-append-add}
use Rattle.std.proofs.Math.ListN.{get_or-append}
use Rattle.std.proofs.lemmas.List.{get_or_at}
use Rattle.loops.specs.Laws.Loop.{le_or_lt, store_next}
use Rattle.loops.specs.Each.{each, joined}

-- place j of so many, each w wide
pub row : (j k w : ℕ) → j < k → j * w + w ≤ k * w
row j k w h = omega (arith, mul-le-mul_right w h, suc-mul j w)

module _ {A : Type 0} (f : ℕ → A) where
  pub each-length : (n : ℕ) → length (each f n) ≡ n
  each-length zero = refl
  each-length (suc n) = length-append (each f n) (f n ∷ []) ∙ (ap (λ (k : ℕ). k + 1) (each-length n) ∙ add-one n)

  -- one store more
  pub each_more : (i : ℕ) (d : List A) → i < length d → set (each f i ++ drop i d) i (f i) ≡ each f (i + 1) ++ drop (i + 1) d
  each_more i d h = rw add-one (rw add-one at (store_next (each f i) d i (f i) (each-length i) h))

  -- what stands at j
  pub each_at : (n j : ℕ) (r : List A) (z : A) → j < n → get_or (each f n ++ r) j z ≡ f j
  each_at zero j r z h = absurd (omega arith)
  each_at (suc n) j r z h =
      ⊎_elim
      (λ (p : n ≤ j). let e : j ≡ n = omega arith in rw (append_assoc (each f n) (f n ∷ []) r, e) (get_or_at (each f n) (f n) r z n (each-length n)))
      (λ (p : j < n). rw (append_assoc (each f n) (f n ∷ []) r) (each_at n j ((f n ∷ []) ++ r) z p))
      (le_or_lt n j)

module _ {A : Type 0} (f : ℕ → List A) (w : ℕ) (l : (j : ℕ) → length (f j) ≡ w) where
  pub joined_length : (n : ℕ) → length (joined f n) ≡ n * w
  joined_length zero = sym (omega arith)
  joined_length (suc n) = length-append (joined f n) (f n) ∙ (rw (joined_length n, l n) (sym (suc-mul n w)))

  -- one list more, written in its place
  pub joined_more : (i : ℕ) (d x : List A) → x ≡ joined f i ++ drop (i * w) d → take (i * w) x ++ (f i ++ drop w (drop (i * w) x)) ≡ joined f (i + 1) ++ drop ((i + 1) * w) d
  joined_more i d x e =
      rw (e, take_at (joined f i) (drop (i * w) d) (i * w) (joined_length i), drop_at (joined f i) (drop (i * w) d) (i * w) (joined_length i), drop-drop, add-one, suc-mul) (sym (append_assoc (joined f i) (f i) (drop (i * w + w) d)))

  -- what stands at place u of list j
  pub joined_at : (n j u : ℕ) (r : List A) (z : A) → j < n → u < w → get_or (joined f n ++ r) (j * w + u) z ≡ get_or (f j) u z
  joined_at zero j u r z h g = absurd (omega arith)
  joined_at (suc n) j u r z h g =
      ⊎_elim
      (λ (p : n ≤ j). let e : j ≡ n = omega arith in
      rw (append_assoc (joined f n) (f n) r, e, ← joined_length n, get_or-append-add (joined f n) (f n ++ r) u z) (get_or-append (f n) r z u (omega (arith, l n))))
      (λ (p : j < n). rw (append_assoc (joined f n) (f n) r) (joined_at n j u (f n ++ r) z p g))
      (le_or_lt n j)
