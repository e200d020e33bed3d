-- The number of a row of limbs and the row of a number: each gives the other. Clients cite value_limbs and limbs_are.
use Rattle.std.specs.Prelude.{◌≡◌, ℕ, zero, suc, ◌+◌, ◌*◌, ◌/◌, ◌%◌, ◌^◌, ◌<◌, List, [], ◌∷◌, length, replicate, slice_index, refl}
use Rattle.std.proofs.Common.{ap, ◌∙◌, arith, pow-add}
use Rattle.std.proofs.Math.Nat.{mod-add-div}
use Rattle.exact.specs.Limbs.{value, limbs_of}

-- the weight of the limb above
pub above : (i : ℕ) → 2 ^ (64 * suc i) ≡ 2 ^ 64 * 2 ^ (64 * i)
above i = ap (λ (n : ℕ). 2 ^ n) (next i) ∙ pow-add 2 64 (64 * i)
  where
    next : (j : ℕ) → 64 * suc j ≡ 64 + 64 * j
    next j = omega arith

-- words that stand for n are n's digits: a number leaves no choice of limbs
pub limbs_are : (l : List ℕ) → ((j : ℕ) → slice_index l j < 2 ^ 64) → l ≡ limbs_of (length l) (value l)
unfolding value limbs_of
limbs_are [] h = refl
limbs_are (x ∷ l) h = rw (low x (value l) (h 0), high x (value l) (h 0)) (ap (λ (r : List ℕ). x ∷ r) (limbs_are l (λ j. h (suc j))))
  where
    low : (a b : ℕ) → a < 2 ^ 64 → (a + 2 ^ 64 * b) % 2 ^ 64 ≡ a
    low a b p = omega arith

    high : (a b : ℕ) → a < 2 ^ 64 → (a + 2 ^ 64 * b) / 2 ^ 64 ≡ b
    high a b p = omega arith

-- limbs of 0
pub zeros : (k : ℕ) → replicate k 0 ≡ limbs_of k 0
unfolding limbs_of
zeros zero = refl
zeros (suc k) = ap (λ (r : List ℕ). 0 ∷ r) (zeros k)

pub length_limbs : (k n : ℕ) → length (limbs_of k n) ≡ k
unfolding limbs_of
length_limbs zero n = refl
length_limbs (suc k) n = ap suc (length_limbs k (n / 2 ^ 64))

-- a number that has room in k limbs is what they stand for
pub value_limbs : (k n : ℕ) → n < 2 ^ (64 * k) → value (limbs_of k n) ≡ n
unfolding value limbs_of
value_limbs zero n h = omega arith
value_limbs (suc k) n h =
    ap (λ (a : ℕ). n % 2 ^ 64 + 2 ^ 64 * a) (value_limbs k (n / 2 ^ 64) (less n (2 ^ (64 * k)) (rw above at h)))
    ∙ mod-add-div n (2 ^ 64)
  where
    less : (a P : ℕ) → a < 2 ^ 64 * P → a / 2 ^ 64 < P
    less a P p = omega arith
