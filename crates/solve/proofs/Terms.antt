-- The terms of a row's sum, four at a time: added, or passed over where the entries are zero and the unknowns finite. Assumes nothing.
use mathlib.Core.Path.{◌≡◌, sym, ap, ◌∙◌, subst}
use mathlib.Core.Logic.{⊎_elim}
use mathlib.Core.Bool.{true, ◌&&◌}
use mathlib.Core.List.{List}
use Prim.Native.Nat.{ℕ, ◌+◌, ◌-◌, ◌<◌, ◌≤◌}
use native.Mathlib.Nat.{eq-or-lt_of_le, add-zero}
use native.Mathlib.Omega.{arith}
use denote.Floats.{passes}
use lib.Ieee.{Float, eq}
use lib.Ieee.Bits.{is_true}
use lib.Ieee.Fits.{and_l, and_r}
use Rattle.num.specs.Floats.{nought}
use Rattle.loops.specs.Loop.{turns}
use Rattle.loops.specs.Laws.Loop.{turns_inv, turns-add, turns_idle}
use Rattle.num.specs.Lists.{«at»}
use Rattle.solve.specs.Solve.{add_one}
use Rattle.solve.specs.Inner.{AllFinite, one_more, four_more}
use Rattle.solve.proofs.Zeros.{Sum, sum_starts, sum_more, sum_stays}

-- what holds of four numbers in a row
four_of : (P : ℕ → Type 0) (a : ℕ) → P a → P (a + 1) → P (a + 2) → P (a + 3) → (q : ℕ) → a ≤ q → q < a + 4 → P q
four_of P a p₀ p₁ p₂ p₃ q l h =
    ⊎_elim (λ e. subst P e p₀) (λ g. ⊎_elim (λ e. subst P e p₁) (λ g. ⊎_elim (λ e. subst P e p₂) (λ g. subst P (last g) p₃) (eq-or-lt_of_le (third g))) (eq-or-lt_of_le (second g))) (eq-or-lt_of_le l)
  where
    second : a < q → a + 1 ≤ q
    second g = omega arith

    third : a + 1 < q → a + 2 ≤ q
    third g = omega arith

    last : a + 2 < q → a + 3 ≡ q
    last g = omega arith

module _ (row : ℕ → ℕ) (m x : List Float) (i j start : ℕ) (s : Float) (at_row : start ≡ row i) (e : s ≡ turns j (add_one row m x i) nought) where
  one_is : (k : ℕ) (t : Float) → one_more m x (start + (i + 1 + j) + k) (i + 1 + j + k) t ≡ add_one row m x i (j + k) t
  one_is k t =
      let p : start + (i + 1 + j) + k ≡ row i + (i + 1 + (j + k)) = omega arith in
      let q : i + 1 + j + k ≡ i + 1 + (j + k) = omega arith in
      rw (p, q)

  pub four_added : four_more m x (start + (i + 1 + j)) (i + 1 + j) s ≡ turns (j + 4) (add_one row m x i) nought
  unfolding four_more
  four_added =
      let f = add_one row m x i in
      let here : start + (i + 1 + j) ≡ row i + (i + 1 + (j + 0)) = omega arith in
      let first : one_more m x (start + (i + 1 + j)) (i + 1 + j) s ≡ f (j + 0) s = rw (here, add-zero j) in
      one_is 3 _ ∙ ap (f (j + 3)) (one_is 2 _ ∙ ap (f (j + 2)) (one_is 1 _ ∙ ap (f (j + 1)) (first ∙ ap (f (j + 0)) e))) ∙ sym (turns-add f nought j 4)

  -- the sum's terms so far make one
  so_far : Sum (turns j (add_one row m x i) nought)
  so_far = turns_inv Sum (add_one row m x i) j nought sum_starts (λ k l t h. sum_more t _ _ h)

  pub four_skipped : (n : ℕ) → AllFinite (i + 1) n x → j + 3 < n - (i + 1) → (eq («at» m (start + (i + 1 + j))) nought && eq («at» m (start + (i + 1 + j) + 1)) nought && eq («at» m (start + (i + 1 + j) + 2)) nought && eq («at» m (start + (i + 1 + j) + 3)) nought) ≡ true → s ≡ turns (j + 4) (add_one row m x i) nought
  four_skipped n f l z =
      let a = start + (i + 1 + j) in
      let b₀ = eq («at» m a) nought in
      let b₁ = eq («at» m (a + 1)) nought in
      let b₂ = eq («at» m (a + 2)) nought in
      let b₃ = eq («at» m (a + 3)) nought in
      let t₃ = passes _ z in
      let t₂ = and_l (b₀ && b₁ && b₂) b₃ t₃ in
      let t₁ = and_l (b₀ && b₁) b₂ t₂ in
      let all = four_of (λ (q : ℕ). eq («at» m q) nought ≡ true) a (is_true b₀ (and_l b₀ b₁ t₁)) (is_true b₁ (and_r b₀ b₁ t₁)) (is_true b₂ (and_r (b₀ && b₁) b₂ t₂)) (is_true b₃ (and_r (b₀ && b₁ && b₂) b₃ t₃)) in
      e ∙ sym (turns_idle (add_one row m x i) nought j (j + 4) (omega arith)
      (λ k p q. sum_stays _ _ _ so_far (all (row i + (i + 1 + k)) (omega arith) (omega arith)) (f (i + 1 + k) (omega arith) (omega arith))))
