-- How much room a row of 66 limbs has, and what the product of two floats can be at most. Assumes nothing.
use Rattle.std.proofs.Common.{◌≡◌, ℕ, ◌+◌, ◌*◌, ◌^◌, ◌<◌, ◌≤◌, Bool, true, false, ltb, List, length, get_or, take, sym, refl, ap, ◌∙◌, subst, mul-le-mul, mul-le-mul_left, arith, lit≤, pow-add, ltb-false, ltb-true, le-ltb, lt-ltb}
use Rattle.exact.specs.Limbs.{value}
use Rattle.exact.specs.Laws.Units.{small_size_lem}
use Rattle.exact.specs.Rows.{cap, Spacious, Room, Small}
use Rattle.exact.proofs.Order.{split, low, next, none_past}

-- the topmost of 66 limbs says whether the row is below 2 ^ 4223
module _ (l : List ℕ) (e : length l ≡ 66) (g : (j : ℕ) → get_or l j 0 < 2 ^ 64) where
  topmost : value l ≡ value (take 65 l) + 2 ^ 4160 * get_or l 65 0
  topmost = split l 65 ∙ ap (λ (n : ℕ). value (take 65 l) + 2 ^ 4160 * n) (next l 65 ∙ ap (λ (n : ℕ). get_or l 65 0 + 2 ^ 64 * n) (none_past l 66 (omega arith)) ∙ none (get_or l 65 0))
    where
      none : (d : ℕ) → d + 2 ^ 64 * 0 ≡ d
      none d = omega arith

  pub top_limb : ltb (get_or l 65 0) (2 ^ 63) ≡ ltb (value l) (2 ^ 4223)
  top_limb = go (ltb (get_or l 65 0) (2 ^ 63)) refl
    where
      under : (v P d W : ℕ) → v < P → d < W → v + P * d < P * W
      under v P d W a b = omega (arith, mul-le-mul_left P b)

      over : (v P d W : ℕ) → W ≤ d → P * W ≤ v + P * d
      over v P d W b = omega (arith, mul-le-mul_left P b)

      go : (t : Bool) → ltb (get_or l 65 0) (2 ^ 63) ≡ t → ltb (get_or l 65 0) (2 ^ 63) ≡ ltb (value l) (2 ^ 4223)
      go true f = f ∙ sym (lt-ltb (value l) (2 ^ 4223) (subst (λ (n : ℕ). n < 2 ^ 4223) (sym topmost) (under (value (take 65 l)) (2 ^ 4160) (get_or l 65 0) (2 ^ 63) (low l 65 g) (ltb-true (get_or l 65 0) (2 ^ 63) f))))
      go false f = f ∙ sym (le-ltb (value l) (2 ^ 4223) (subst (λ (n : ℕ). 2 ^ 4223 ≤ n) (sym topmost) (over (value (take 65 l)) (2 ^ 4160) (get_or l 65 0) (2 ^ 63) (ltb-false (get_or l 65 0) (2 ^ 63) f))))

  -- a limb more makes room for anything
  pub row_under : value l < 2 ^ 4224
  row_under = subst (λ (n : ℕ). n < 2 ^ 4224) (sym topmost) (go (value (take 65 l)) (2 ^ 4160) (get_or l 65 0) (2 ^ 64) (low l 65 g) (g 65))
    where
      go : (v P d W : ℕ) → v < P → d < W → v + P * d < P * W
      go v P d W a b = omega (arith, mul-le-mul_left P b)

add_under : (v c m k : ℕ) → v < m → m + c ≤ k → v + c < k
add_under v c m k a b = omega arith

pub roomy : (l : List ℕ) → Room l → Spacious l
unfolding cap
roomy l r = record { limbs = omega arith; room = rw r.limbs (add_under (value l) (2 ^ 4196) (2 ^ 4223) (2 ^ 4224) r.room (lit≤ tt)) }

pub wide_roomy : (l : List ℕ) → length l ≡ 67 → value l < 2 ^ 4224 → Spacious l
unfolding cap
wide_roomy l e h = record { limbs = omega arith; room = rw e (add_under (value l) (2 ^ 4196) (2 ^ 4224) (2 ^ 4288) h (lit≤ tt)) }

-- digits at a place, times digits at a place: the product of the digits, at the sum of the places, and at most `cap`
pub placed : (d p e q : ℕ) → d * e * 2 ^ (p + q) ≡ d * 2 ^ p * (e * 2 ^ q)
placed d p e q = ap (λ (n : ℕ). d * e * n) (pow-add 2 p q) ∙ go d e (2 ^ p) (2 ^ q)
  where
    go : (a b P Q : ℕ) → a * b * (P * Q) ≡ a * P * (b * Q)
    go a b P Q = omega arith

pub capped : (d p e q : ℕ) → Small d p → Small e q → d * 2 ^ p * (e * 2 ^ q) ≤ cap
unfolding cap
capped d p e q s t = mul-le-mul {n₂ = 2 ^ 2098} {m₂ = 2 ^ 2098} (small_size_lem d p s) (small_size_lem e q t)

pub has_place : (l : List ℕ) (d p e q : ℕ) → Small d p → Small e q → Spacious l → value l + d * e * 2 ^ (p + q) < 2 ^ (64 * length l)
has_place l d p e q s t r = rw (placed d p e q) (go (value l) (d * 2 ^ p * (e * 2 ^ q)) cap _ (capped d p e q s t) r.room)
  where
    go : (v a c m : ℕ) → a ≤ c → v + c < m → v + a < m
    go v a c m h g = omega arith
