-- Which of two lists of limbs stands for more: the topmost limb that differs decides. Assumes nothing.
use Rattle.std.proofs.Common.{◌≡◌, Bool, true, false, ltb, leb, ltb-true, ltb-false, le-leb, le_of_lt, ℕ, zero, suc, ◌+◌, ◌-◌, ◌*◌, ◌^◌, ◌<◌, ◌≤◌, List, [], ◌∷◌, length, get_or, take, drop, sym, refl, ap, ◌∙◌, subst, mul-le-mul_left, arith, lit<, drop_of_length-le, pow_pos}
use borrow.Author.Tests.{lt-leb}
use Rattle.exact.specs.Limbs.{value}
use Rattle.exact.specs.Laws.Limbs.{above}

-- the limbs below i and those from i on
pub split : (xs : List ℕ) (i : ℕ) → value xs ≡ value (take i xs) + 2 ^ (64 * i) * value (drop i xs)
unfolding value
split [] zero = refl
split [] (suc i) = none (2 ^ (64 * suc i))
  where
    none : (P : ℕ) → 0 ≡ 0 + P * 0
    none P = omega arith
split (x ∷ xs) zero = go (value xs) x
  where
    go : (a b : ℕ) → b + 2 ^ 64 * a ≡ 0 + 1 * (b + 2 ^ 64 * a)
    go a b = omega arith
split (x ∷ xs) (suc i) = rw (above i) (go x (value xs) (value (take i xs)) (2 ^ (64 * i)) (value (drop i xs)) (2 ^ 64) (split xs i))
  where
    go : (d v l P h W : ℕ) → v ≡ l + P * h → d + W * v ≡ d + W * l + W * P * h
    go d v l P h W e = omega (arith, ap (λ (n : ℕ). W * n) e)

-- i limbs stand for less than the weight of limb i
pub low : (xs : List ℕ) (i : ℕ) → ((j : ℕ) → get_or xs j 0 < 2 ^ 64) → value (take i xs) < 2 ^ (64 * i)
unfolding value
low [] zero h = lit< {m = 0} {n = 1} tt
low [] (suc i) h = pow_pos (64 * suc i)
low (x ∷ xs) zero h = lit< {m = 0} {n = 1} tt
low (x ∷ xs) (suc i) h = rw (above i) (go x (value (take i xs)) (2 ^ (64 * i)) (h 0) (low xs i (λ j. h (suc j))))
  where
    go : (d v P : ℕ) → d < 2 ^ 64 → v < P → d + 2 ^ 64 * v < 2 ^ 64 * P
    go d v P p q = omega arith

-- limb i and those above it; past the end all is 0
pub next : (xs : List ℕ) (i : ℕ) → value (drop i xs) ≡ get_or xs i 0 + 2 ^ 64 * value (drop (suc i) xs)
unfolding value
next [] zero = refl
next [] (suc i) = refl
next (x ∷ xs) zero = refl
next (x ∷ xs) (suc i) = next xs i

pub none_past : (xs : List ℕ) (i : ℕ) → length xs ≤ i → value (drop i xs) ≡ 0
unfolding value
none_past xs i h = rw (drop_of_length-le xs h)

-- the limbs above i the same, a limb at i that is smaller: the whole is smaller
pub smaller : (a b : List ℕ) (i : ℕ) → ((j : ℕ) → get_or a j 0 < 2 ^ 64) → value (drop (suc i) a) ≡ value (drop (suc i) b) → get_or a i 0 < get_or b i 0 → value a < value b
smaller a b i g e l =
    subst (λ (n : ℕ). n < value b) (sym (split a i ∙ ap (λ (n : ℕ). value (take i a) + 2 ^ (64 * i) * n) (next a i)))
    (subst (λ (n : ℕ). value (take i a) + 2 ^ (64 * i) * (get_or a i 0 + 2 ^ 64 * value (drop (suc i) a)) < n) (sym (split b i ∙ ap (λ (n : ℕ). value (take i b) + 2 ^ (64 * i) * n) (next b i)))
    (go (value (take i a)) (value (take i b)) (2 ^ (64 * i)) (get_or a i 0) (get_or b i 0) (2 ^ 64) (value (drop (suc i) a)) (value (drop (suc i) b)) (low a i g) l e))
  where
    go : (u v P p q W r s : ℕ) → u < P → p < q → r ≡ s → u + P * (p + W * r) < v + P * (q + W * s)
    go u v P p q W r s h k m = omega (arith, mul-le-mul_left P k, ap (λ (n : ℕ). P * (W * n)) m)

-- a loop that comes down from the top: at i, all from i on is the same
module _ (a b : List ℕ) (i : ℕ) (p : 0 < i) (e : value (drop i a) ≡ value (drop i b)) where
  above_same : value (drop (suc (i - 1)) a) ≡ value (drop (suc (i - 1)) b)
  above_same = let step : suc (i - 1) ≡ i = omega arith in rw step e

  -- limbs at i - 1 that differ decide
  pub decided : ((j : ℕ) → get_or a j 0 < 2 ^ 64) → ((j : ℕ) → get_or b j 0 < 2 ^ 64) → (get_or a (i - 1) 0 ≡ get_or b (i - 1) 0 → ⊥) → ltb (get_or a (i - 1) 0) (get_or b (i - 1) 0) ≡ leb (value a) (value b)
  decided g h d = go (ltb (get_or a (i - 1) 0) (get_or b (i - 1) 0)) refl
    where
      less : (p q : ℕ) → q ≤ p → (p ≡ q → ⊥) → q < p
      less p q k n = omega arith

      go : (t : Bool) → ltb (get_or a (i - 1) 0) (get_or b (i - 1) 0) ≡ t → t ≡ leb (value a) (value b)
      go true f = sym (le-leb (value a) (value b) (le_of_lt (smaller a b (i - 1) g above_same (ltb-true _ _ f))))
      go false f = sym (lt-leb (value a) (value b) (smaller b a (i - 1) h (sym above_same) (less _ _ (ltb-false _ _ f) d)))

  pub same : get_or a (i - 1) 0 ≡ get_or b (i - 1) 0 → value (drop (i - 1) a) ≡ value (drop (i - 1) b)
  same q = next a (i - 1) ∙ (λ j. q j + 2 ^ 64 * above_same j) ∙ sym (next b (i - 1))
