-- One column of the elimination, as the code takes it: it clears only the rows that its search has listed. Assumes nothing.
use mathlib.Core.Path.{◌≡◌, sym, ap, ◌∙◌}
use mathlib.Core.Logic.{inl, inr, ⊎_elim}
use mathlib.Core.Bool.{Bool, true, false}
use mathlib.Core.List.{List}
use Prim.Native.Nat.{ℕ, ◌+◌, ◌-◌, ◌*◌, ◌<◌, ◌≤◌}
use native.Mathlib.Numerals.{add-one}
use native.Mathlib.Omega.{arith}
use lib.ListN.{length, get_or, set, take}
use Rattle.std.proofs.lemmas.List.{get_or-take, length-take-le}
use lib.Seq.{get_or-set_same, get_or-set_other}
use lib.Ieee.{Float, eq}
use Rattle.num.specs.Floats.{nought}
use Rattle.loops.specs.Loop.{turns}
use Rattle.loops.specs.Laws.Loop.{turns_ext, turns_idle, three}
use Rattle.num.specs.Lists.{«at»}
use Rattle.solve.specs.Solve.{row_start, index_of_next_abs, swapped, reduced, clear_one, cleared, column}
use Rattle.solve.specs.Inner.{Rows, Lists, clear_listed}
use Rattle.solve.specs.Laws.Entries.{row_end, Swap, swap_apart, swap_same, Clear, clear_turns}
use Rattle.solve.proofs.Search.{never}

-- ---- the list

module _ (n k : ℕ) (list : List ℕ) (m : List Float) where
  pub list_starts : Lists n k (k + 1) 0 list m
  list_starts t l z =
      let e : k + 1 - (k + 1) ≡ 0 = omega arith in
      sym (ap (λ (d : ℕ). turns d (clear_one (row_start n) n k) t) e)

  module _ (r c : ℕ) (kr : k < r) (rn : r < n) (h : Lists n k r c list m) where
    -- a row that is zero in the column need not be listed
    pub list_same : eq («at» m (row_start n r + k)) nought ≡ true → Lists n k (r + 1) c list m
    unfolding reduced
    list_same e t l z =
        let d = r - (k + 1) in
        let g : Clear n k d t (turns d (clear_one (row_start n) n k) t) = clear_turns n k d t (omega arith) (omega arith) l in
        let zero : eq («at» t (row_start n r + k)) nought ≡ true = z r kr (omega arith) e in
        h t l (λ q a b. z q a (omega arith))
        ∙ sym (turns_idle (clear_one (row_start n) n k) t d (r + 1 - (k + 1)) (omega arith)
        (λ i p q. let a : k + 1 + i ≡ r = omega arith in rw (ap (λ (x : Float). eq x nought) (g.same (k + 1 + i) k (omega arith) (inr (inl (omega arith)))), a, zero)))

    -- any other is listed
    pub list_longer : c < length list → Lists n k (r + 1) (c + 1) (set list c r) m
    list_longer cl t l z =
        let d = r - (k + 1) in
        let longer = set list c r in
        let f = clear_listed n k longer in
        let old : turns c f t ≡ turns c (clear_listed n k list) t
        = turns_ext f (clear_listed n k list) c t (λ i p x. ap (λ (q : ℕ). reduced (row_start n k + k) (row_start n q + k) (n + 1 - k) x) (get_or-set_other list c i r 0 (λ q. omega arith))) in
        let at_r : get_or longer c 0 ≡ k + 1 + d = get_or-set_same list c r 0 cl ∙ omega arith in
        let e : r + 1 - (k + 1) ≡ d + 1 = omega arith in
        rw (add-one c, e, add-one d) (ap (f c) (old ∙ h t l (λ q a b. z q a (omega arith))) ∙ ap (λ (q : ℕ). reduced (row_start n k + k) (row_start n q + k) (n + 1 - k) (turns d (clear_one (row_start n) n k) t)) at_r)

-- the first c numbers of a list, as a list of their own
pub cut : (n k c : ℕ) (list : List ℕ) (t : List Float) → c ≤ length list → turns (length (take c list)) (clear_listed n k (take c list)) t ≡ turns c (clear_listed n k list) t
cut n k c list t h =
    rw (length-take-le c list h)
    (turns_ext (clear_listed n k (take c list)) (clear_listed n k list) c t
    (λ i l x. ap (λ (q : ℕ). reduced (row_start n k + k) (row_start n q + k) (n + 1 - k) x) (get_or-take c list i 0 l)))

pub cut_rows : (n c : ℕ) (list : List ℕ) → c ≤ length list → Rows n c list → Rows n (length (take c list)) (take c list)
cut_rows n c list h f i l =
    let g : i < c = omega (arith, length-take-le c list h) in
    rw (get_or-take c list i 0 g) (f i g)

-- ---- the column

module _ (n k p : ℕ) (m : List Float) (kn : k < n) (l : n * (n + 1) ≤ length m) (e : p ≡ index_of_next_abs (row_start n) n k m) where
  -- the pivot is zero
  pub stops : eq («at» m (row_start n p + k)) nought ≡ true → ◌≡◌ {A = Bool × List Float} (false, m) (column (row_start n) n k m)
  unfolding column
  stops t = rw (← e, t)

  module _ (pn : p < n) (t : eq («at» m (row_start n p + k)) nought ≡ false) where
    -- a row below row k that is zero in column k stays so when the pivot's row and row k change places
    swap_zero : (q : ℕ) → k < q → q < n → eq («at» m (row_start n q + k)) nought ≡ true → eq («at» (swapped (row_start n p) (row_start n k) (n + 1) m) (row_start n q + k)) nought ≡ true
    swap_zero q kq qn z =
        ⊎_elim
        (λ d. ap (λ (y : List Float). eq («at» y (row_start n q + k)) nought) (ap (λ (a : ℕ). swapped (a * (n + 1)) (k * (n + 1)) (n + 1) m) d ∙ swap_same (k * (n + 1)) (n + 1) m) ∙ z)
        (⊎_elim (λ g. kept (swap_apart _ _ _ m (inl (row_end p k (n + 1) g)) in_p in_k)) (λ g. kept (swap_apart _ _ _ m (inr (row_end k p (n + 1) g)) in_p in_k)))
        (three p k)
      where
        in_p : p * (n + 1) + (n + 1) ≤ length m
        in_p = omega (arith, row_end p n (n + 1) pn)

        in_k : k * (n + 1) + (n + 1) ≤ length m
        in_k = omega (arith, row_end k n (n + 1) kn)

        kept : Swap (p * (n + 1)) (k * (n + 1)) (n + 1) m (swapped (p * (n + 1)) (k * (n + 1)) (n + 1) m) → eq («at» (swapped (row_start n p) (row_start n k) (n + 1) m) (row_start n q + k)) nought ≡ true
        kept s =
            ⊎_elim
            (λ d. never (sym t ∙ ap (λ (y : ℕ). eq («at» m (y * (n + 1) + k)) nought) (sym d) ∙ z))
            (⊎_elim
            (λ g. rw (s.same (q * (n + 1) + k) (inl (omega (arith, row_end q p (n + 1) g))) (inr (omega (arith, row_end k q (n + 1) kq)))) z)
            (λ g. rw (s.same (q * (n + 1) + k) (inr (omega (arith, row_end p q (n + 1) g))) (inr (omega (arith, row_end k q (n + 1) kq)))) z))
            (three q p)

    -- it is not: m₁ stands after the swap, m₂ after the clearing
    pub goes : (c : ℕ) (list : List ℕ) (m₁ m₂ : List Float) → Lists n k n c list m → m₁ ≡ swapped (row_start n p) (row_start n k) (n + 1) m → length m₁ ≡ length m → m₂ ≡ turns c (clear_listed n k list) m₁ → ◌≡◌ {A = Bool × List Float} (true, m₂) (column (row_start n) n k m)
    unfolding column cleared
    goes c list m₁ m₂ h e₁ g e₂ =
        let y : (q : ℕ) → k < q → q < n → eq («at» m (row_start n q + k)) nought ≡ true → eq («at» m₁ (row_start n q + k)) nought ≡ true = rw e₁ swap_zero in
        rw (← e, t, ← e₁, ← h m₁ (omega arith) y, e₂)
