-- The value of limbs when one of them is set, and the turns of the two loops over them: a row less another, and a row over a small number. Assumes nothing.
use Rattle.std.proofs.Common.{◌≡◌, ℕ, zero, suc, ◌+◌, ◌-◌, ◌*◌, ◌^◌, ◌<◌, ◌≤◌, List, length, get_or, take, drop, set, sym, refl, ap, ◌∙◌, subst, le_refl, mul-le-mul_right, add-one, arith, lit<, length-set, take_all, get_or-set_same, drop-set-lt}
use lib.Seq.{take-set-le}
use Rattle.exact.specs.Limbs.{value}
use Rattle.exact.proofs.Order.{split, next, none_past}
use Rattle.exact.proofs.Carry.{next_weight}

-- the limbs from i on: the limb at i, and those above it
pub value-drop : (l : List ℕ) (i : ℕ) → value (drop i l) ≡ get_or l i 0 + 2 ^ 64 * value (drop (i + 1) l)
value-drop l i = next l i ∙ ap (λ (n : ℕ). get_or l i 0 + 2 ^ 64 * value (drop n l)) (sym (add-one i))

-- the limbs up to i: those below it, and the limb at i
pub value-take : (l : List ℕ) (i : ℕ) → value (take (i + 1) l) ≡ value (take i l) + get_or l i 0 * 2 ^ (64 * i)
value-take l i = go (value l) (value (take i l)) (value (take (i + 1) l)) (value (drop i l)) (value (drop (i + 1) l)) (get_or l i 0) (2 ^ (64 * i)) (2 ^ 64) (split l i) (rw next_weight at (split l (i + 1))) (value-drop l i)
  where
    go : (v a b c d x P B : ℕ) → v ≡ a + P * c → v ≡ b + B * P * d → c ≡ x + B * d → b ≡ a + x * P
    go v a b c d x P B e f g = omega (arith, ap (λ (n : ℕ). P * n) g)

-- a limb that is set counts in the place of the one before
pub value_set : (l : List ℕ) (i v : ℕ) → i < length l → value (set l i v) + get_or l i 0 * 2 ^ (64 * i) ≡ value l + v * 2 ^ (64 * i)
value_set l i v h =
    go (value l) (value (set l i v)) (value (take i l)) (get_or l i 0) (value (drop (i + 1) l)) (2 ^ (64 * i)) (2 ^ 64)
    (split l i ∙ ap (λ (n : ℕ). value (take i l) + 2 ^ (64 * i) * n) (value-drop l i))
    (split (set l i v) i ∙ (λ j. value (take-set-le i l i v (le_refl i) j) + 2 ^ (64 * i) * (value-drop (set l i v) i ∙ (λ k. get_or-set_same l i v 0 h k + 2 ^ 64 * value (drop-set-lt (i + 1) l i v (after i) k))) j))
  where
    after : (a : ℕ) → a < a + 1
    after a = omega arith

    go : (u w a x d P B : ℕ) → u ≡ a + P * (x + B * d) → w ≡ a + P * (v + B * d) → w + x * P ≡ u + v * P
    go u w a x d P B e f = omega arith

-- ---- less another row, from the lowest limb up

-- r holds a less b in its limbs below i, but for what is to be taken off at i
pub record Lessened (a b r : List ℕ) (borrow i : ℕ) : Type 0 where
  pub limbs : length r ≡ 66
  pub small : borrow ≤ 1
  pub few : value (take i r) < 2 ^ (64 * i)
  pub sum : value (take i r) + value (take i b) ≡ value (take i a) + borrow * 2 ^ (64 * i)

none : (l : List ℕ) → value (take 0 l) ≡ 0
unfolding value
none l = refl

pub lessened_start : (a b r : List ℕ) → length r ≡ 66 → Lessened a b r 0 0
lessened_start a b r h = record {
  limbs = h;
  small = omega arith;
  few = rw (none r) (lit< tt);
  sum = go (value (take 0 r)) (value (take 0 b)) (value (take 0 a)) (none r) (none b) (none a);
}
  where
    go : (x y z : ℕ) → x ≡ 0 → y ≡ 0 → z ≡ 0 → x + y ≡ z + 0 * 1
    go x y z e f g = omega arith

pub lessened_more : (a b r : List ℕ) (c i w c' : ℕ) → i < 66 → w < 2 ^ 64 → w + get_or b i 0 + c ≡ get_or a i 0 + c' * 2 ^ 64 → c' ≤ 1 → Lessened a b r c i → Lessened a b (set r i w) c' (i + 1)
lessened_more a b r c i w c' h W e k s = record {
  limbs = length-set r i w ∙ s.limbs;
  small = k;
  few = rw (taken, next_weight i) (below (value (take i r)) (2 ^ (64 * i)) s.few (mul-le-mul_right (2 ^ (64 * i)) W));
  sum = rw (taken, value-take b i, value-take a i, next_weight i) (go (value (take i r)) (value (take i b)) (value (take i a)) (get_or b i 0) (get_or a i 0) (2 ^ (64 * i)) (2 ^ 64) s.sum e);
}
  where
    taken : value (take (i + 1) (set r i w)) ≡ value (take i r) + w * 2 ^ (64 * i)
    taken = value-take (set r i w) i ∙ (λ j. value (take-set-le i r i w (le_refl i) j) + get_or-set_same r i w 0 (subst (λ (n : ℕ). i < n) (sym s.limbs) h) j * 2 ^ (64 * i))

    below : (v P : ℕ) → v < P → suc w * P ≤ 2 ^ 64 * P → v + w * P < 2 ^ 64 * P
    below v P p q = omega arith

    go : (v y x q p P B : ℕ) → v + y ≡ x + c * P → w + q + c ≡ p + c' * B → v + w * P + (y + q * P) ≡ x + p * P + c' * (B * P)
    go v y x q p P B f g = omega (arith, ap (λ (n : ℕ). n * P) g)

pub lessened_end : (a b r : List ℕ) (c i : ℕ) → i ≡ 66 → length a ≡ 66 → length b ≡ 66 → value b ≤ value a → Lessened a b r c i → value r ≡ value a - value b
lessened_end a b r c i e p q h s = go (value r) (value a) (value b) c (2 ^ (64 * i)) h (rw (all r s.limbs) at s.few) (rw (all r s.limbs, all b q, all a p) at s.sum)
  where
    all : (l : List ℕ) → length l ≡ 66 → take i l ≡ l
    all l g = take_all i l (omega arith)

    go : (v x y d P : ℕ) → y ≤ x → v < P → v + y ≡ x + d * P → v ≡ x - y
    go v x y zero P f g k = omega arith
    go v x y (suc d) P f g k = absurd (no (d * P) k)
      where
        no : (n : ℕ) → v + y ≡ x + suc d * P → ⊥
        no n u = omega arith

-- ---- over d, from the highest limb down

-- limbs l that began as l₀: those from i on are divided, and r is left of them
pub record Lowered (l₀ : List ℕ) (d i r : ℕ) (l : List ℕ) : Type 0 where
  pub limbs : length l ≡ length l₀
  pub left : r < d
  pub sum : value l + d * (value (drop i l) * 2 ^ (64 * i)) + r * 2 ^ (64 * i) ≡ value l₀ + value (drop i l) * 2 ^ (64 * i)

pub lowered_start : (l : List ℕ) (d : ℕ) → 0 < d → Lowered l d (length l) 0 l
lowered_start l d p = record { limbs = refl; left = p; sum = rw (none_past l (length l) (le_refl (length l))) (go (value l) (2 ^ (64 * length l))) }
  where
    go : (v P : ℕ) → v + d * (0 * P) + 0 * P ≡ v + 0 * P
    go v P = omega arith

lowered_more : (l₀ l : List ℕ) (d i r q m : ℕ) → i < length l → q * d + m ≡ r * 2 ^ 64 + get_or l i 0 → m < d → Lowered l₀ d (i + 1) r l → Lowered l₀ d i m (set l i q)
lowered_more l₀ l d i r q m h e k s = record {
  limbs = length-set l i q ∙ s.limbs;
  left = k;
  sum = rw (value-drop (set l i q) i, get_or-set_same l i q 0 h, drop-set-lt (i + 1) l i q (after i))
      (go (value l) (value (set l i q)) (value l₀) (get_or l i 0) (value (drop (i + 1) l)) (2 ^ (64 * i)) (2 ^ 64) (value_set l i q h) (rw next_weight at s.sum) e);
}
  where
    after : (a : ℕ) → a < a + 1
    after a = omega arith

    go : (v w u x a P B : ℕ) → w + x * P ≡ v + q * P → v + d * (a * (B * P)) + r * (B * P) ≡ u + a * (B * P) → q * d + m ≡ r * B + x
        → w + d * ((q + B * a) * P) + m * P ≡ u + (q + B * a) * P
    go v w u x a P B f g n = omega (arith, ap (λ (z : ℕ). z * P) n)

pub lowered_turn : (l₀ l : List ℕ) (d i r q m : ℕ) → 0 < i → i ≤ length l → q * d + m ≡ r * 2 ^ 64 + get_or l (i - 1) 0 → m < d → Lowered l₀ d i r l → Lowered l₀ d (i - 1) m (set l (i - 1) q)
lowered_turn l₀ l d i r q m p h e k s = lowered_more l₀ l d (i - 1) r q m (less i (length l) p h) e k (subst (λ (n : ℕ). Lowered l₀ d n r l) (back i p) s)
  where
    less : (a b : ℕ) → 0 < a → a ≤ b → a - 1 < b
    less a b t g = omega arith

    back : (a : ℕ) → 0 < a → a ≡ a - 1 + 1
    back a t = omega arith

pub lowered_end : (l₀ l : List ℕ) (d r : ℕ) → Lowered l₀ d 0 r l → value l * d + r ≡ value l₀
lowered_end l₀ l d r s = go (value l) (value l₀) s.sum
  where
    go : (v u : ℕ) → v + d * (v * 1) + r * 1 ≡ u + v * 1 → v * d + r ≡ u
    go v u e = omega arith
