-- A test that every entry of a list passes, by a loop that stops at the first that fails. Assumes nothing.
use mathlib.Core.Path.{◌≡◌, sym, ap, subst}
use mathlib.Core.Bool.{Bool, true, false, ◌&&◌, and-eq-true_iff as both}
use mathlib.Core.List.{List, [], ◌∷◌}
use Prim.Native.Nat.{ℕ, zero, suc, ◌+◌, ◌≤◌, ◌<◌}
use native.Mathlib.Nat.{not-suc-le-zero, le_of_suc-le-suc}
use native.Mathlib.Numerals.{add-one}
use lib.ListN.{length, get_or, take, drop, drop_of_length-le}
use lib.Seq.{drop-cons, get_or-take, length-take-le}
use lib.Ieee.{Float, nan, binary64, fits}
use lib.Dec.{T}
use denote.Floats.{passes}
use Rattle.exact.specs.Laws.Sums.{Factor}
use Rattle.num.specs.Lists.{every}
use Rattle.judge.specs.Judge.{allowed}

module _ (p : Float → Bool) (d : Float) where
  -- every entry passes: the one at i does
  every_at : (xs : List Float) (i : ℕ) → every p xs ≡ true → i < length xs → p (get_or xs i d) ≡ true
  every_at [] i e h = absurd (not-suc-le-zero h)
  every_at (x ∷ xs) zero e h = ((both (p x) (every p xs)).0 e).0
  every_at (x ∷ xs) (suc i) e h = every_at xs i ((both (p x) (every p xs)).0 e).1 (le_of_suc-le-suc h)

  -- the same of the first k
  pub front_at : (xs : List Float) (k i : ℕ) → every p (take k xs) ≡ true → k ≤ length xs → i < k → p (get_or xs i d) ≡ true
  front_at xs k i e h l = subst (λ (y : Float). p y ≡ true) (get_or-take k xs i d l) (every_at (take k xs) i e (subst (λ (n : ℕ). i < n) (sym (length-take-le k xs h)) l))

  -- what is left from i on: the entry at i, and what is left after it
  one : (xs : List Float) (i : ℕ) (b : Bool) → i < length xs → p (get_or xs i d) ≡ b → every p (drop i xs) ≡ (b && every p (drop (suc i) xs))
  one xs i b h e = rw (drop-cons xs i d h) (ap (λ (c : Bool). c && every p (drop (suc i) xs)) e)

  pub every_next : (xs : List Float) (i : ℕ) → i < length xs → p (get_or xs i d) ≡ true → every p (drop i xs) ≡ every p (drop (i + 1) xs)
  every_next xs i h e = rw (add-one i) (one xs i true h e)

  pub every_not : (xs : List Float) (i : ℕ) → i < length xs → p (get_or xs i d) ≡ false → every p (drop i xs) ≡ false
  every_not xs i h e = one xs i false h e

  pub every_end : (xs : List Float) (i : ℕ) → length xs ≤ i → every p (drop i xs) ≡ true
  every_end xs i h = ap (every p) (drop_of_length-le xs h)

-- each of the first k numbers that are all finite can be added
pub factor : (xs : List Float) (k i : ℕ) → ((j : ℕ) → T (fits binary64 (get_or xs j nan))) → every (allowed false) (take k xs) ≡ true → k ≤ length xs → i < k → Factor (get_or xs i nan)
factor xs k i w e h l = (w i, passes _ (front_at (allowed false) nan xs k i e h l))
