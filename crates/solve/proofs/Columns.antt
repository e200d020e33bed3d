-- One column of the elimination, as the code takes it: it searches and clears only the rows up to the last that is not zero in the column. Assumes nothing.
use mathlib.Core.Path.{◌≡◌, sym, ap, ◌∙◌, subst}
use mathlib.Core.Logic.{inl, inr, ⊎_elim}
use mathlib.Core.Bool.{Bool, true, false}
use mathlib.Core.List.{List}
use Prim.Native.Nat.{ℕ, ◌+◌, ◌-◌, ◌*◌, ◌<◌, ◌≤◌}
use native.Mathlib.Omega.{arith}
use lib.ListN.{length}
use lib.Ieee.{Float, eq}
use Rattle.num.specs.Floats.{nought}
use Rattle.loops.specs.Loop.{turns}
use Rattle.loops.specs.Laws.Loop.{turns_idle, three}
use Rattle.num.specs.Lists.{«at»}
use Rattle.solve.specs.Solve.{row_start, larger, index_of_next_abs, swapped, reduced, clear_one, cleared, column}
use Rattle.solve.specs.Inner.{Empty}
use Rattle.solve.specs.Laws.Entries.{row_end, Swap, swap_apart, swap_same, Clear, clear_turns}
use Rattle.solve.proofs.Search.{search_idle}

module _ (n k r : ℕ) (kr : k < r) (rn : r ≤ n) where
  -- rows from r on stay zero in column k when two rows before them change places
  swap_empty : (p : ℕ) (m : List Float) → p < r → n * (n + 1) ≤ length m → Empty n k r m → Empty n k r (swapped (row_start n p) (row_start n k) (n + 1) m)
  swap_empty p m h l z =
      ⊎_elim
      (λ e. subst (Empty n k r) (sym (ap (λ (q : ℕ). swapped (q * (n + 1)) (k * (n + 1)) (n + 1) m) e ∙ swap_same (k * (n + 1)) (n + 1) m)) z)
      (⊎_elim (λ g. kept (swap_apart _ _ _ m (inl (row_end p k (n + 1) g)) in_p in_k)) (λ g. kept (swap_apart _ _ _ m (inr (row_end k p (n + 1) g)) in_p in_k)))
      (three p k)
    where
      in_p : p * (n + 1) + (n + 1) ≤ length m
      in_p = omega (arith, row_end p n (n + 1) (omega arith))

      in_k : k * (n + 1) + (n + 1) ≤ length m
      in_k = omega (arith, row_end k n (n + 1) (omega arith))

      kept : Swap (p * (n + 1)) (k * (n + 1)) (n + 1) m (swapped (p * (n + 1)) (k * (n + 1)) (n + 1) m) → Empty n k r (swapped (row_start n p) (row_start n k) (n + 1) m)
      kept s q u v =
          rw (s.same (q * (n + 1) + k) (inr (omega (arith, row_end p q (n + 1) (omega arith)))) (inr (omega (arith, row_end k q (n + 1) (omega arith))))) (z q u v)

  -- they need not be cleared
  clear_idle : (m : List Float) → n * (n + 1) ≤ length m → Empty n k r m → cleared (row_start n) n k m ≡ turns (r - (k + 1)) (clear_one (row_start n) n k) m
  unfolding cleared reduced
  clear_idle m l z =
      let t = turns (r - (k + 1)) (clear_one (row_start n) n k) m in
      let e : Clear n k (r - (k + 1)) m t = clear_turns n k (r - (k + 1)) m (omega arith) (omega arith) l in
      turns_idle (clear_one (row_start n) n k) m (r - (k + 1)) (n - (k + 1)) (omega arith)
      (λ i p q. rw (ap (λ (x : Float). eq x nought) (e.same (k + 1 + i) k (omega arith) (inr (inl (omega arith)))) ∙ z (k + 1 + i) (omega arith) (omega arith)))

  module _ (p : ℕ) (m : List Float) (l : n * (n + 1) ≤ length m) (z : Empty n k r m) (e : p ≡ (turns (r - k) (larger (row_start n) k m) (nought, k)).1) where
    row_is : index_of_next_abs (row_start n) n k m ≡ p
    row_is = search_idle (row_start n) n k r m rn z ∙ sym e

    -- the pivot is zero
    pub stops : eq («at» m (row_start n p + k)) nought ≡ true → ◌≡◌ {A = Bool × List Float} (false, m) (column (row_start n) n k m)
    unfolding column
    stops t = rw (row_is, t)

    -- it is not: m₁ stands after the swap, m₂ after the clearing
    pub goes : (m₁ m₂ : List Float) → p < r → eq («at» m (row_start n p + k)) nought ≡ false → m₁ ≡ swapped (row_start n p) (row_start n k) (n + 1) m → length m₁ ≡ length m → m₂ ≡ turns (r - (k + 1)) (clear_one (row_start n) n k) m₁ → ◌≡◌ {A = Bool × List Float} (true, m₂) (column (row_start n) n k m)
    unfolding column
    goes m₁ m₂ h t e₁ g e₂ =
        let y : Empty n k r m₁ = rw e₁ (swap_empty p m h l z) in
        rw (row_is, t, ← e₁, clear_idle m₁ (omega arith) y, e₂)
