-- The number of limbs when one of them is set, and the turns of the two loops over them. Assumes nothing.
use mathlib.Core.Path.{◌≡◌, refl, sym, ap, ◌∙◌, subst}
use mathlib.Core.List.{List, [], ◌∷◌}
use Prim.Native.Nat.{ℕ, zero, suc, ◌+◌, ◌-◌, ◌*◌, ◌/◌, ◌%◌, ◌^◌, ◌≤◌, ◌<◌}
use native.Mathlib.Nat.{not-suc-le-zero, le_of_suc-le-suc, mul-le-mul, mul-le-mul_right, mod-lt, mod-add-div, div-add-mod', div-lt_iff_lt-mul, le_refl, mul_comm}
use native.Mathlib.Numerals.{add-one}
use native.Mathlib.Omega.{arith}
use lib.Pow.{pow-add, pow_pos}
use lib.ListN.{length, get_or, set, drop, replicate, length-set, drop_of_length-le}
use lib.Seq.{drop-cons, drop-set-lt, get_or-set_same}
use Rattle.decimal.specs.Limbs.{value, Few}

-- ---- one limb

-- the weight of the limb above
pub above : (i : ℕ) → 2 ^ (32 * (i + 1)) ≡ 2 ^ 32 * 2 ^ (32 * i)
above i = ap (λ (n : ℕ). 2 ^ n) (next i) ∙ pow-add 2 32 (32 * i)
  where
    next : (j : ℕ) → 32 * (j + 1) ≡ 32 + 32 * j
    next j = omega arith

-- the limbs from i on: the limb at i, and those above it
pub value-drop : (l : List ℕ) (i : ℕ) → i < length l → value (drop i l) ≡ get_or l i 0 + 2 ^ 32 * value (drop (i + 1) l)
unfolding value
value-drop l i h = ap value (drop-cons l i 0 h) ∙ ap (λ (n : ℕ). get_or l i 0 + 2 ^ 32 * value (drop n l)) (sym (add-one i))

pub value_none : (l : List ℕ) (i : ℕ) → length l ≤ i → value (drop i l) ≡ 0
unfolding value
value_none l i h = ap value (drop_of_length-le l h)

-- setting the limb at i to v takes the old digit's part away and puts v's there
pub value_set : (l : List ℕ) (i v : ℕ) → i < length l → value (set l i v) + get_or l i 0 * 2 ^ (32 * i) ≡ value l + v * 2 ^ (32 * i)
unfolding value
value_set [] i v h = absurd (not-suc-le-zero h)
value_set (x ∷ l) zero v h = swap x v (value l)
  where
    swap : (a b t : ℕ) → b + 2 ^ 32 * t + a * 1 ≡ a + 2 ^ 32 * t + b * 1
    swap a b t = omega arith
value_set (x ∷ l) (suc i) v h = rw (ap (λ (n : ℕ). 2 ^ (32 * n)) (sym (add-one i)) ∙ above i) (shift (value l) (value (set l i v)) x (get_or l i 0) (2 ^ (32 * i)) (value_set l i v (le_of_suc-le-suc h)))
  where
    shift : (a b d w P : ℕ) → b + w * P ≡ a + v * P → d + 2 ^ 32 * b + w * (2 ^ 32 * P) ≡ d + 2 ^ 32 * a + v * (2 ^ 32 * P)
    shift a b d w P e = omega arith

pub few_set : (l : List ℕ) (i v : ℕ) → Few l → v < 2 ^ 32 → Few (set l i v)
few_set [] i v f h j = f j
few_set (x ∷ l) zero v f h zero = h
few_set (x ∷ l) zero v f h (suc j) = f (suc j)
few_set (x ∷ l) (suc i) v f h zero = f 0
few_set (x ∷ l) (suc i) v f h (suc j) = few_set l i v (λ n. f (suc n)) h j

pub few_none : (k : ℕ) → Few (replicate k 0)
few_none zero j = pow_pos 32
few_none (suc k) zero = pow_pos 32
few_none (suc k) (suc j) = few_none k j

-- ---- times k, from the lowest limb up: at i, with the carry c

-- limbs l that began as l₀: those below i are multiplied, and c is to be added at i
pub record Raised (l₀ : List ℕ) (k i c : ℕ) (l : List ℕ) : Type 0 where
  pub few : Few l
  pub limbs : length l ≡ length l₀
  pub carry : c < 2 ^ 32
  pub sum : value l + c * 2 ^ (32 * i) + k * (value (drop i l) * 2 ^ (32 * i)) ≡ value l₀ * k + value (drop i l) * 2 ^ (32 * i)

pub product_fits : (x k c : ℕ) → x < 2 ^ 32 → k < 2 ^ 32 → c < 2 ^ 32 → x * k + c < 2 ^ 64
product_fits x k c p q r = go (x * k) (mul-le-mul {n₂ = 2 ^ 32 - 1} {m₂ = 2 ^ 32 - 1} (less x p) (less k q))
  where
    less : (a : ℕ) → a < 2 ^ 32 → a ≤ 2 ^ 32 - 1
    less a h = omega arith

    go : (n : ℕ) → n ≤ 18446744065119617025 → n + c < 2 ^ 64
    go n h = omega arith

pub raised_start : (l : List ℕ) (k : ℕ) → Few l → Raised l k 0 0 l
raised_start l k f = record { few = f; limbs = refl; carry = pow_pos 32; sum = go (value l) }
  where
    go : (v : ℕ) → v + 0 * 1 + k * (v * 1) ≡ v * k + v * 1
    go v = omega arith

pub raised_more : (l₀ l : List ℕ) (k i c t : ℕ) → i < length l → k < 2 ^ 32 → Raised l₀ k i c l → t ≡ get_or l i 0 * k + c → Raised l₀ k (i + 1) (t / 4294967296) (set l i (t % 4294967296))
raised_more l₀ l k i c t h K r e = record {
  few = few_set l i _ r.few (mod-lt t (pow_pos 32));
  limbs = length-set l i _ ∙ r.limbs;
  carry = (div-lt_iff_lt-mul (pow_pos 32)).1 (subst (λ (n : ℕ). n < 2 ^ 64) (sym e) (product_fits (get_or l i 0) k c (r.few i) K r.carry));
  sum = rw (above i, drop-set-lt (i + 1) l i (t % 4294967296) (next i)) (go (value l) (value (set l i (t % 4294967296))) (value l₀) (get_or l i 0) (t % 4294967296) (t / 4294967296) (value (drop i l)) (value (drop (i + 1) l)) (2 ^ (32 * i)) (2 ^ 32) (value_set l i _ h) r.sum (mod-add-div t 4294967296 ∙ e) (value-drop l i h));
}
  where
    next : (a : ℕ) → a < a + 1
    next a = omega arith

    go : (v w u x s q a b P B : ℕ) → w + x * P ≡ v + s * P → v + c * P + k * (a * P) ≡ u * k + a * P → s + B * q ≡ x * k + c → a ≡ x + B * b
        → w + q * (B * P) + k * (b * (B * P)) ≡ u * k + b * (B * P)
    go v w u x s q a b P B f g m n = omega (arith, ap (λ (z : ℕ). z * P) m, ap (λ (z : ℕ). z * P) n, ap (λ (z : ℕ). k * (z * P)) n)

-- at the end nothing is carried, where the product has room
pub raised_end : (l₀ l : List ℕ) (k i c : ℕ) → length l ≤ i → i ≤ length l → value l₀ * k < 2 ^ (32 * length l₀) → Raised l₀ k i c l → value l ≡ value l₀ * k
raised_end l₀ l k i c h g room r = go (value l) (value l₀ * k) c (2 ^ (32 * i)) (value (drop i l)) (value_none l i h) r.sum (subst (λ (n : ℕ). value l₀ * k < 2 ^ (32 * n)) (same (length l) (length l₀) i h g r.limbs) room)
  where
    same : (a b j : ℕ) → a ≤ j → j ≤ a → a ≡ b → b ≡ j
    same a b j p q e = omega arith

    none : (n P : ℕ) → n * P < P → n ≡ 0
    none zero P p = refl
    none (suc n) P p = absurd (over n P p)
      where
        over : (m Q : ℕ) → suc m * Q < Q → ⊥
        over m Q p = omega arith

    go : (v w d P a : ℕ) → a ≡ 0 → v + d * P + k * (a * P) ≡ w + a * P → w < P → v ≡ w
    go v w d P a z e p =
        let e' : v + d * P ≡ w = clear (rw z at e) in
        let n : d ≡ 0 = none d P (part e') in
        whole (rw n at e')
      where
        clear : v + d * P + k * (0 * P) ≡ w + 0 * P → v + d * P ≡ w
        clear f = omega arith

        part : v + d * P ≡ w → d * P < P
        part f = omega arith

        whole : v + 0 * P ≡ w → v ≡ w
        whole f = omega arith

-- ---- over d, from the highest limb down: at i, with r left

-- limbs l that began as l₀: those from i on are divided, and r is left of them
pub record Lowered (l₀ : List ℕ) (d i r : ℕ) (l : List ℕ) : Type 0 where
  pub few : Few l
  pub limbs : length l ≡ length l₀
  pub left : r < d
  pub sum : value l + d * (value (drop i l) * 2 ^ (32 * i)) + r * 2 ^ (32 * i) ≡ value l₀ + value (drop i l) * 2 ^ (32 * i)

pub lowered_start : (l : List ℕ) (d : ℕ) → 0 < d → Few l → Lowered l d (length l) 0 l
lowered_start l d p f = record { few = f; limbs = refl; left = p; sum = go (value l) (value (drop (length l) l)) (2 ^ (32 * length l)) (value_none l (length l) (le_refl (length l))) }
  where
    go : (v a P : ℕ) → a ≡ 0 → v + d * (a * P) + 0 * P ≡ v + a * P
    go v a P z = rw z (omega arith)

pub quotient_few : (r x d : ℕ) → r < d → x < 2 ^ 32 → r * 4294967296 + x < d * 4294967296
quotient_few r x d p q = omega (arith, mul-le-mul_right 4294967296 p)

pub dividend_fits : (r x d : ℕ) → r < d → d < 2 ^ 32 → x < 2 ^ 32 → r * 4294967296 + x < 2 ^ 64
dividend_fits r x d p h q = omega arith

pub lowered_more : (l₀ l : List ℕ) (d i r t : ℕ) → i < length l → 0 < d → Lowered l₀ d (i + 1) r l → t ≡ r * 4294967296 + get_or l i 0 → Lowered l₀ d i (t % d) (set l i (t / d))
lowered_more l₀ l d i r t h D s e = record {
  few = few_set l i _ s.few ((div-lt_iff_lt-mul D).1 (subst (λ (n : ℕ). n < 4294967296 * d) (sym e) (subst (λ (n : ℕ). r * 4294967296 + get_or l i 0 < n) (mul_comm d 4294967296) (quotient_few r (get_or l i 0) d s.left (s.few i)))));
  limbs = length-set l i _ ∙ s.limbs;
  left = mod-lt t D;
  sum = rw (value-drop (set l i (t / d)) i (subst (λ (n : ℕ). i < n) (sym (length-set l i _)) h), get_or-set_same l i (t / d) 0 h, drop-set-lt (i + 1) l i (t / d) (next i))
      (go (value l) (value (set l i (t / d))) (value l₀) (get_or l i 0) (t / d) (t % d) (value (drop (i + 1) l)) (2 ^ (32 * i)) (2 ^ 32) (value_set l i _ h) (rw above at s.sum) (div-add-mod' t d ∙ e));
}
  where
    next : (a : ℕ) → a < a + 1
    next a = omega arith

    go : (v w u x q m a P B : ℕ) → w + x * P ≡ v + q * P → v + d * (a * (B * P)) + r * (B * P) ≡ u + a * (B * P) → q * d + m ≡ r * B + x
        → w + d * ((q + B * a) * P) + m * P ≡ u + (q + B * a) * P
    go v w u x q m a P B f g n = omega (arith, ap (λ (z : ℕ). z * P) n)

pub lowered_turn : (l₀ l : List ℕ) (d i r t : ℕ) → 0 < i → i ≤ length l → 0 < d → Lowered l₀ d i r l → t ≡ r * 4294967296 + get_or l (i - 1) 0 → Lowered l₀ d (i - 1) (t % d) (set l (i - 1) (t / d))
lowered_turn l₀ l d i r t p h D s e = lowered_more l₀ l d (i - 1) r t (less i (length l) p h) D (subst (λ (n : ℕ). Lowered l₀ d n r l) (back i p) s) e
  where
    less : (a b : ℕ) → 0 < a → a ≤ b → a - 1 < b
    less a b q g = omega arith

    back : (a : ℕ) → 0 < a → a ≡ a - 1 + 1
    back a q = omega arith

pub lowered_end : (l₀ l : List ℕ) (d r : ℕ) → Lowered l₀ d 0 r l → value l * d + r ≡ value l₀
lowered_end l₀ l d r s = go (value l) (value l₀) s.sum
  where
    go : (v u : ℕ) → v + d * (v * 1) + r * 1 ≡ u + v * 1 → v * d + r ≡ u
    go v u e = omega arith

-- ---- the two lowest limbs are all of a number below 2 ^ 64
pub two_limbs : (l : List ℕ) → 1 < length l → value l < 2 ^ 64 → get_or l 0 0 + 4294967296 * get_or l 1 0 ≡ value l
two_limbs l h s = go (value l) (get_or l 0 0) (get_or l 1 0) (value (drop 1 l)) (value (drop 2 l)) s (value-drop l 0 (less (length l) h)) (value-drop l 1 h)
  where
    less : (n : ℕ) → 1 < n → 0 < n
    less n p = omega arith

    go : (v x y a b : ℕ) → v < 2 ^ 64 → v ≡ x + 2 ^ 32 * a → a ≡ y + 2 ^ 32 * b → x + 4294967296 * y ≡ v
    go v x y a b p e f = omega arith
