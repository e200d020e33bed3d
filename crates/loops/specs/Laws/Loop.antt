-- Laws of counting loops, and of lists that are overwritten from the front, copied, or given a row. Clients cite all of them. Assumes nothing.
use Rattle.std.specs.Prelude.{◌≡◌, refl, ◌⊎◌, Bool, true, false, cond, List, [], ◌∷◌, ◌++◌, leb, get_or, set, take, drop, replicate, Float}
use Rattle.std.proofs.Common.{sym, ap, ◌∙◌, subst, inl, inr, ⊎_elim, append-nil, le_antisymm, not-suc-le-zero, le_of_suc-le-suc, add-zero, add-suc, add-one, le-leb, leb-true, leb-false, length-append, length-drop, drop_of_length-le, drop-cons, length-take-le, get_or-append-add, get_or-drop}
use Prim.Native.Nat.{ℕ, zero, suc, ◌+◌, ◌-◌, ◌<◌, ◌≤◌, min}
use native.Mathlib.Omega.{arith}
use Rattle.std.proofs.lemmas.Bool.{lt-leb}
use Rattle.std.proofs.Math.ListN.{length, length-take}
use Rattle.std.proofs.lemmas.List.{length-replicate, set_at}
use Rattle.std.proofs.Math.Seq.{take_all, drop-length, append_snoc}
use Rattle.loops.specs.Loop.{turns, down, front, copied, row_at, row_put}

-- ---- a choice

-- of one thing is that thing
pub either_same : {A : Type 0} {x : A} (b : Bool) → cond b x x ≡ x
either_same true = refl
either_same false = refl

-- ---- two numbers

-- at most, or above
pub le_or_lt : (a b : ℕ) → (a ≤ b) ⊎ (b < a)
le_or_lt a b = go (leb a b) refl
  where
    go : (t : Bool) → leb a b ≡ t → (a ≤ b) ⊎ (b < a)
    go true e = inl (leb-true a b e)
    go false e = inr (leb-false a b e)

-- equal, below, or above
pub three : (a b : ℕ) → (a ≡ b) ⊎ ((a < b) ⊎ (b < a))
three a b = ⊎_elim (λ p. ⊎_elim (λ q. inl (le_antisymm p q)) (λ q. inr (inl q)) (le_or_lt b a)) (λ p. inr (inr p)) (le_or_lt a b)

-- ---- a loop whose state is `turns i f s₀` at its head: one turn more, and its end

module _ {S : Type 0} (f : ℕ → S → S) (s s₀ : S) where
  pub more : (i : ℕ) → s ≡ turns i f s₀ → f i s ≡ turns (i + 1) f s₀
  more i e = rw add-one (ap (f i) e)

  pub done : (i n : ℕ) → i ≤ n → n ≤ i → s ≡ turns i f s₀ → s ≡ turns n f s₀
  done i n p q e = subst (λ (k : ℕ). s ≡ turns k f s₀) (le_antisymm p q) e

-- the turn i - 1 of a loop that counts down
pub less : {S : Type 0} (f : ℕ → S → S) (s : S) (i : ℕ) → 0 < i → down (i - 1) f (f (i - 1) s) ≡ down i f s
less f s i h =
    let e : i ≡ suc (i - 1) = omega arith in
    sym (ap (λ (k : ℕ). down k f s) e)

-- ---- what holds of every turn holds of the loop

-- bodies that agree
pub turns_ext : {S : Type 0} (f g : ℕ → S → S) (n : ℕ) (s : S) → ((i : ℕ) → i < n → (x : S) → f i x ≡ g i x) → turns n f s ≡ turns n g s
turns_ext f g zero s h = refl
turns_ext f g (suc n) s h = ap (f n) (turns_ext f g n s (λ i l. h i (omega arith))) ∙ h n (omega arith) (turns n g s)

-- a relation that each turn keeps
pub turns_rel : {S T : Type 0} (R : S → T → Type 0) (f : ℕ → S → S) (g : ℕ → T → T) (n : ℕ) (s : S) (t : T) → R s t → ((i : ℕ) → i < n → (x : S) (y : T) → R x y → R (f i x) (g i y)) → R (turns n f s) (turns n g t)
turns_rel R f g zero s t r h = r
turns_rel R f g (suc n) s t r h = h n (omega arith) _ _ (turns_rel R f g n s t r (λ i l. h i (omega arith)))

-- a property that each turn keeps
pub turns_inv : {S : Type 0} (P : S → Type 0) (f : ℕ → S → S) (n : ℕ) (s : S) → P s → ((i : ℕ) → i < n → (x : S) → P x → P (f i x)) → P (turns n f s)
turns_inv P f zero s p h = p
turns_inv P f (suc n) s p h = h n (omega arith) _ (turns_inv P f n s p (λ i l. h i (omega arith)))

-- the same of a loop that counts down
pub down_inv : {S : Type 0} (P : S → Type 0) (f : ℕ → S → S) (n : ℕ) (s : S) → P s → ((i : ℕ) → i < n → (x : S) → P x → P (f i x)) → P (down n f s)
down_inv P f zero s p h = p
down_inv P f (suc n) s p h = down_inv P f n (f n s) (h n (omega arith) s p) (λ i l. h i (omega arith))

-- a relation between two such loops that goes with the turns left
pub down_rel : {S : Type 0} (R : ℕ → S → S → Type 0) (f g : ℕ → S → S) (n : ℕ) (s t : S) → R n s t → ((i : ℕ) → i < n → (x y : S) → R (suc i) x y → R i (f i x) (g i y)) → R 0 (down n f s) (down n g t)
down_rel R f g zero s t r h = r
down_rel R f g (suc n) s t r h = down_rel R f g n (f n s) (g n t) (h n (omega arith) s t r) (λ i l. h i (omega arith))

-- a turns, and then b more
pub turns-add : {S : Type 0} (f : ℕ → S → S) (s : S) (a b : ℕ) → turns (a + b) f s ≡ turns b (λ (i : ℕ). f (a + i)) (turns a f s)
turns-add f s a zero = rw add-zero
turns-add f s a (suc b) = rw add-suc (ap (f (a + b)) (turns-add f s a b))

-- turns from a on that change nothing
pub turns_idle : {S : Type 0} (f : ℕ → S → S) (s : S) (a n : ℕ) → a ≤ n → ((i : ℕ) → a ≤ i → i < n → f i (turns a f s) ≡ turns a f s) → turns n f s ≡ turns a f s
turns_idle f s a zero p h = ap (λ (k : ℕ). turns k f s) (le_antisymm (omega arith) p)
turns_idle f s a (suc n) p h =
    ⊎_elim (λ q. ap (f n) (turns_idle f s a n q (λ i l u. h i l (omega arith))) ∙ h n q (omega arith)) (λ q. ap (λ (k : ℕ). turns k f s) (le_antisymm q p)) (le_or_lt a n)

-- ---- a list d that is overwritten from the front by another, s: after i turns it is `front i s d`

module _ {A : Type 0} (s d : List A) where
  pub front_length : (i : ℕ) → i ≤ length s → i ≤ length d → length (front i s d) ≡ length d
  front_length i p q = simp (length-append, length-take, length-drop) (omega arith)

  -- the element at i is still the old one
  pub front_old : (i : ℕ) (z : A) → i ≤ length s → get_or (front i s d) i z ≡ get_or d i z
  front_old i z h =
      let e : length (take i s) ≡ i = length-take-le i s h in
      let p = get_or-append-add (take i s) (drop i d) 0 z in
      rw (e, add-zero, get_or-drop, add-zero) at p

  -- all of s, where both are as long
  pub front_end : (i : ℕ) → length s ≤ i → length d ≤ i → front i s d ≡ s
  front_end i p q =
      let e : take i s ≡ s = take_all i s p in
      let o : drop i d ≡ [] = drop_of_length-le d q in
      rw (e, o) (append-nil s)

module _ {A : Type 0} (z : A) where
  front_suc : (s d : List A) (i : ℕ) → i < length s → i < length d → set (front i s d) i (get_or s i z) ≡ front (suc i) s d
  front_suc [] d i l m = absurd (not-suc-le-zero l)
  front_suc (x ∷ s) [] i l m = absurd (not-suc-le-zero m)
  front_suc (x ∷ s) (y ∷ d) zero l m = refl
  front_suc (x ∷ s) (y ∷ d) (suc i) l m = ap (λ (r : List A). x ∷ r) (front_suc s d i (le_of_suc-le-suc l) (le_of_suc-le-suc m))

  -- one store more
  pub front_more : (s d : List A) (i : ℕ) → i < length s → i < length d → set (front i s d) i (get_or s i z) ≡ front (i + 1) s d
  front_more s d i l m = rw add-one (front_suc s d i l m)

-- ---- a list d whose front is a list that grows: one store more, behind it

pub store_next : {A : Type 0} (l d : List A) (i : ℕ) (v : A) → length l ≡ i → i < length d → set (l ++ drop i d) i v ≡ (l ++ (v ∷ [])) ++ drop (i + 1) d
store_next {A} l d i v e h =
    rw add-one (ap (λ (r : List A). set (l ++ r) i v) (drop-cons d i v h) ∙ (set_at l _ (drop (suc i) d) v i e ∙ sym (append_snoc l v (drop (suc i) d))))

-- ---- a list that is filled with one value v

module _ {A : Type 0} (v : A) where
  fill_suc : (i : ℕ) (d : List A) → i < length d → set (replicate i v ++ drop i d) i v ≡ replicate (suc i) v ++ drop (suc i) d
  fill_suc i [] h = absurd (not-suc-le-zero h)
  fill_suc zero (x ∷ d) h = refl
  fill_suc (suc i) (x ∷ d) h = ap (λ (t : List A). v ∷ t) (fill_suc i d (le_of_suc-le-suc h))

  -- one store more
  pub fill_more : (i : ℕ) (d : List A) → i < length d → set (replicate i v ++ drop i d) i v ≡ replicate (i + 1) v ++ drop (i + 1) d
  fill_more i d h = rw add-one (fill_suc i d h)

  pub fill_length : (i : ℕ) (d : List A) → i ≤ length d → length (replicate i v ++ drop i d) ≡ length d
  fill_length i d h = simp (length-append, length-replicate, length-drop) (omega arith)

  pub fill_done : (i : ℕ) (d : List A) → i ≡ length d → replicate i v ++ drop i d ≡ replicate (length d) v
  fill_done i d e = rw (e, drop-length, append-nil)

-- ---- what a copy leaves

module _ {A : Type 0} (s d : List A) where
  pub copied-length : length (copied s d) ≡ length d
  unfolding copied
  copied-length = front_length s d (min (length s) (length d)) (omega arith) (omega arith)

  -- all of s, and d after it
  pub copied_part : length s ≤ length d → copied s d ≡ s ++ drop (length s) d
  unfolding copied
  copied_part h =
      let e : min (length s) (length d) ≡ length s = omega arith in
      rw (e, take_all (length s) s (omega arith))

  pub copied_same : length s ≡ length d → copied s d ≡ s
  unfolding copied
  copied_same h = front_end s d (min (length s) (length d)) (omega arith) (omega arith)

-- ---- what putting a row leaves

module _ (place : ℕ) (t : Float) (v rows : List Float) where
  pub row_length : place + 1 + length v ≤ length rows → length (row_at place t v rows) ≡ length rows
  unfolding row_at
  row_length h = simp (length-append, length-take, length-drop) (omega arith)

  -- a row that fits is put, and no other
  pub row_fits_lem : place + 1 + length v ≤ length rows → row_put place t v rows ≡ row_at place t v rows
  unfolding row_put
  row_fits_lem h = rw (le-leb (place + 1 + length v) (length rows) h)

  pub row_too_long : length rows < place + 1 + length v → row_put place t v rows ≡ rows
  unfolding row_put
  row_too_long h = rw (lt-leb (place + 1 + length v) (length rows) h)

  pub row_put-length : length (row_put place t v rows) ≡ length rows
  row_put-length =
      ⊎_elim (λ h. ap length (row_fits_lem h) ∙ row_length h) (λ h. ap length (row_too_long h)) (le_or_lt (place + 1 + length v) (length rows))
