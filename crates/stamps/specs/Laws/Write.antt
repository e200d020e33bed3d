-- Laws of writes: what a landing entry's numbers are, one list after another is the joined list, no write changes a length.
-- Clients cite joined and stamped-length. Assumes nothing.
use Rattle.std.specs.Prelude.{ℕ, ◌+◌, ◌*◌, ◌<◌, ◌≤◌, ◌≡◌, refl, Bool, true, false, not, List, [], ◌∷◌, ◌++◌, eqb, length, Float}
use Rattle.std.proofs.Common.{◌∙◌, mul-le-mul, arith, ltb-true, leb-true, length-set}
use Rattle.std.proofs.Math.Bool.{and-eq-true_iff as both}
use Rattle.std.proofs.lemmas.Bool.{eqb-false, not-true}
use Rattle.numbers.specs.Limits.{most_unknowns}
use Rattle.stamps.specs.Write.{Write, lands, place, written, stamped}

pub joined : (n : ℕ) (xs ys : List Write) (m : List Float) → stamped n (xs ++ ys) m ≡ stamped n ys (stamped n xs m)
unfolding stamped
joined n [] ys m = refl
joined n (x ∷ xs) ys m = joined n xs ys (written n x m)

pub written-length : (n : ℕ) (x : Write) (m : List Float) → length (written n x m) ≡ length m
unfolding written
written-length n x m = by_landing (lands n x.row x.column) refl
  where
    by_landing : (b : Bool) → lands n x.row x.column ≡ b → length (written n x m) ≡ length m
    by_landing true e = rw e (length-set m (place n x) _)
    by_landing false e = rw e

pub stamped-length : (n : ℕ) (xs : List Write) (m : List Float) → length (stamped n xs m) ≡ length m
unfolding stamped
stamped-length n [] m = refl
stamped-length n (x ∷ xs) m = stamped-length n xs (written n x m) ∙ written-length n x m

-- an entry that lands stands in a row and a column other than ground's, of a system that is not too large
pub record Landed (n r c : ℕ) : Type 0 where
  pub row_live : 0 < r
  pub column_live : 0 < c
  pub row_in : r < n
  pub column_in : c ≤ n
  pub small : n ≤ most_unknowns

above_zero : (k : ℕ) → not (eqb k 0) ≡ true → 0 < k
above_zero k e = let h = eqb-false k 0 (not-true _ e) in omega arith

pub landed : (n r c : ℕ) → lands n r c ≡ true → Landed n r c
landed n r c e =
    let h = (both _ _).0 e in
    let h₂ = (both _ _).0 h.1 in
    let h₃ = (both _ _).0 h₂.1 in
    let h₄ = (both _ _).0 h₃.1 in
    record {
      row_live = above_zero r h.0;
      column_live = above_zero c h₂.0;
      row_in = ltb-true r n h₃.0;
      column_in = leb-true c n h₄.0;
      small = leb-true n most_unknowns h₄.1;
    }

-- its place is below 48 times 49
pub place_small : (n r c : ℕ) → lands n r c ≡ true → r * (n + 1) + c < 2352
place_small n r c e = let h = landed n r c e in omega (arith, mul-le-mul {n₁ = r} {m₁ = n + 1} {n₂ = 47} {m₂ = 49} (omega arith) (omega arith))
