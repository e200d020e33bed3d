-- The digits of limbs at a bit's place, those below it, and how many a float drops. Assumes nothing.
use Rattle.std.proofs.Common.{◌≡◌, ℕ, zero, suc, ◌+◌, ◌-◌, ◌*◌, ◌/◌, ◌%◌, ◌^◌, ◌<◌, ◌≤◌, Bool, true, false, ◌&&◌, eqb, List, get_or, take, drop, sym, refl, ap, ◌∙◌, subst, ⊎_elim, le_trans, lt_of_lt_of_le, mod-lt, mod-eq_of_lt, mul_assoc, div-lt_iff_lt-mul, eq-zero-or-pos, mul-le-mul_left, lt_of_not-le, le-div_iff_mul-le, zero-add, not-le_of_lt, arith, lit<, pow_pos, pow_mono, pow-add, shr-shr, shr_lt, eq-eqb, ne_eqb}
use native.Mathlib.Nat.{div-eq_of_lt, div-add-mod, add-mul-div_left, add-mul-mod_self_left}
use lib.Dec.{eqb-suc-zero}
use lib.Pow.{mod-pow-add}
use lib.Count.{count_leading_zeros, leading_top, leading_of_zero}
use lib.Ieee.{size}
use lib.Ieee.Digits.{size-lt, size-le}
use Rattle.exact.specs.Limbs.{value}
use Rattle.exact.proofs.Order.{split, low}
use Rattle.mean.specs.Leading.{dropped_of, marked, Top}
use Rattle.mean.proofs.Turns.{value-drop, value-take}

-- every limb is a word
abbrev pub Limbs : List ℕ → Type 0
Limbs l = (j : ℕ) → get_or l j 0 < 2 ^ 64

-- the place p as a limb's and a bit's
place : (p : ℕ) → 64 * (p / 64) + p % 64 ≡ p
place p = div-add-mod p 64

-- ---- from a limb on, and below it
from : (l : List ℕ) (i : ℕ) → Limbs l → value l / 2 ^ (64 * i) ≡ value (drop i l)
from l i w =
    ap (λ (n : ℕ). n / 2 ^ (64 * i)) (split l i)
    ∙ add-mul-div_left (value (take i l)) (value (drop i l)) (pow_pos (64 * i))
    ∙ ap (λ (n : ℕ). n + value (drop i l)) (div-eq_of_lt (low l i w))
    ∙ zero-add (value (drop i l))

below : (l : List ℕ) (i : ℕ) → Limbs l → value l % 2 ^ (64 * i) ≡ value (take i l)
below l i w =
    ap (λ (n : ℕ). n % 2 ^ (64 * i)) (split l i)
    ∙ add-mul-mod_self_left (value (take i l)) (2 ^ (64 * i)) (value (drop i l))
    ∙ mod-eq_of_lt (low l i w)

-- ---- from a bit of a limb on: s is the bit, x the limb, u what the limbs above stand for
module _ (s x u : ℕ) (S : s < 64) where
  weights : 2 ^ s * 2 ^ (64 - s) ≡ 2 ^ 64
  weights = sym (pow-add 2 s (64 - s)) ∙ ap (λ (n : ℕ). 2 ^ n) (sum s S)
    where
      sum : (a : ℕ) → a < 64 → a + (64 - a) ≡ 64
      sum a h = omega arith

  apart : x + 2 ^ 64 * u ≡ x + 2 ^ s * (2 ^ (64 - s) * u)
  apart = ap (λ (n : ℕ). x + n * u) (sym weights) ∙ ap (λ (n : ℕ). x + n) (mul_assoc (2 ^ s) (2 ^ (64 - s)) u)

  bits_from : (x + 2 ^ 64 * u) / 2 ^ s ≡ x / 2 ^ s + 2 ^ (64 - s) * u
  bits_from = ap (λ (n : ℕ). n / 2 ^ s) apart ∙ add-mul-div_left x (2 ^ (64 - s) * u) (pow_pos s)

  bits_below : (x + 2 ^ 64 * u) % 2 ^ s ≡ x % 2 ^ s
  bits_below = ap (λ (n : ℕ). n % 2 ^ s) apart ∙ add-mul-mod_self_left x (2 ^ s) (2 ^ (64 - s) * u)

-- a part that has room in 63 bits with its weight is one limb
one_limb : (W u y v : ℕ) → 0 < W → W * u < 2 ^ 63 → u ≡ y + 2 ^ 64 * v → u ≡ y
one_limb W u y zero p h e = omega arith
one_limb W u y (suc v) p h e = absurd (no (W * u) (mul-le-mul_left W (big u e)) h (mul-le-mul_left (2 ^ 64) p))
  where
    big : (n : ℕ) → n ≡ y + 2 ^ 64 * suc v → 2 ^ 64 ≤ n
    big n f = omega arith

    no : (n : ℕ) → W * 2 ^ 64 ≤ n → n < 2 ^ 63 → 2 ^ 64 * 1 ≤ 2 ^ 64 * W → ⊥
    no n f g k = omega arith

abbrev pub low_of : List ℕ → ℕ → ℕ
low_of l p = get_or l (p / 64) 0 / 2 ^ (p % 64)

abbrev pub high_of : List ℕ → ℕ → ℕ
high_of l p = get_or l (p / 64 + 1) 0 * 2 ^ (63 - p % 64) % 2 ^ 64

-- the two limbs that a word at the place p takes from
pub window_is : (l : List ℕ) (p : ℕ) → Limbs l → value l / 2 ^ p < 2 ^ 63 → (low_of l p + high_of l p * 2 ≡ value l / 2 ^ p) × (high_of l p * 2 < 2 ^ 63)
window_is l p w h =
    let i = p / 64 in
    let s = p % 64 in
    let S : s < 64 = mod-lt p (lit< tt) in
    let x = get_or l i 0 in
    let y = get_or l (i + 1) 0 in
    let u = value (drop (i + 1) l) in
    let is : value l / 2 ^ p ≡ x / 2 ^ s + 2 ^ (64 - s) * u =
    ap (λ (n : ℕ). value l / 2 ^ n) (sym (place p)) ∙ sym (shr-shr (value l) (64 * i) s) ∙ ap (λ (n : ℕ). n / 2 ^ s) (from l i w ∙ value-drop l i) ∙ bits_from s x u S in
    let few : 2 ^ (64 - s) * u < 2 ^ 63 = less (value l / 2 ^ p) (x / 2 ^ s) (2 ^ (64 - s) * u) is h in
    let one : u ≡ y = one_limb (2 ^ (64 - s)) u y (value (drop (i + 1 + 1) l)) (pow_pos (64 - s)) few (value-drop l (i + 1)) in
    let twice : 2 ^ (64 - s) * u ≡ y * 2 ^ (63 - s) * 2 = ap (λ (n : ℕ). 2 ^ (64 - s) * n) one ∙ ap (λ (n : ℕ). n * y) (ap (λ (n : ℕ). 2 ^ n) (next s S) ∙ pow-add 2 (63 - s) 1) ∙ swap (2 ^ (63 - s)) y in
    let whole : high_of l p ≡ y * 2 ^ (63 - s) = mod-eq_of_lt (half (2 ^ (64 - s) * u) (y * 2 ^ (63 - s)) twice few) in
    (ap (λ (n : ℕ). x / 2 ^ s + n * 2) whole ∙ ap (λ (n : ℕ). x / 2 ^ s + n) (sym twice) ∙ sym is, subst (λ (n : ℕ). n < 2 ^ 63) (twice ∙ ap (λ (n : ℕ). n * 2) (sym whole)) few)
  where
    less : (a b c : ℕ) → a ≡ b + c → a < 2 ^ 63 → c < 2 ^ 63
    less a b c e f = omega arith

    next : (a : ℕ) → a < 64 → 64 - a ≡ 63 - a + 1
    next a f = omega arith

    swap : (P y : ℕ) → P * 2 ^ 1 * y ≡ y * P * 2
    swap P y = omega arith

    half : (a b : ℕ) → a ≡ b * 2 → a < 2 ^ 63 → b < 2 ^ 64
    half a b e f = omega arith

-- ---- whether anything is below a place

pub zero_sum : (a b P : ℕ) → 0 < P → eqb (b + a * P) 0 ≡ (eqb b 0 && eqb a 0)
zero_sum zero zero P h = eq-eqb (0 + 0 * P) 0 (omega arith)
zero_sum (suc a) zero P h = ne_eqb (0 + suc a * P) 0 (some (a * P)) ∙ sym (eqb-suc-zero a)
  where
    some : (n : ℕ) → 0 + suc a * P ≡ 0 → ⊥
    some n e = omega arith
zero_sum a (suc b) P h = ne_eqb (suc b + a * P) 0 (some (a * P)) ∙ sym (ap (λ (t : Bool). t && eqb a 0) (eqb-suc-zero b))
  where
    some : (n : ℕ) → suc b + a * P ≡ 0 → ⊥
    some n e = omega arith

-- one limb more
pub blank_more : (l : List ℕ) (i : ℕ) → eqb (value (take (i + 1) l)) 0 ≡ (eqb (value (take i l)) 0 && eqb (get_or l i 0) 0)
blank_more l i = ap (λ (n : ℕ). eqb n 0) (value-take l i) ∙ zero_sum (get_or l i 0) (value (take i l)) (2 ^ (64 * i)) (pow_pos (64 * i))

-- the limbs below the place, and the bits of its limb below it
pub clear_is : (l : List ℕ) (p : ℕ) → Limbs l → eqb (value l % 2 ^ p) 0 ≡ (eqb (value (take (p / 64) l)) 0 && eqb (get_or l (p / 64) 0 % 2 ^ (p % 64)) 0)
clear_is l p w =
    let i = p / 64 in
    let s = p % 64 in
    ap (λ (n : ℕ). eqb (value l % 2 ^ n) 0) (turned i s ∙ refl)
    ∙ ap (λ (n : ℕ). eqb n 0) (mod-pow-add (value l) s (64 * i) ∙ (λ j. from l i w j % 2 ^ s * 2 ^ (64 * i) + below l i w j) ∙ ap (λ (n : ℕ). n * 2 ^ (64 * i) + value (take i l)) (ap (λ (n : ℕ). n % 2 ^ s) (value-drop l i) ∙ bits_below s (get_or l i 0) (value (drop (i + 1) l)) (mod-lt p (lit< tt))) ∙ sum (get_or l i 0 % 2 ^ s * 2 ^ (64 * i)) (value (take i l)))
    ∙ zero_sum (get_or l i 0 % 2 ^ s) (value (take i l)) (2 ^ (64 * i)) (pow_pos (64 * i))
  where
    turned : (i s : ℕ) → p ≡ p % 64 + 64 * (p / 64)
    turned i s = omega arith

    sum : (a b : ℕ) → a + b ≡ b + a
    sum a b = omega arith

-- ---- how many digits are dropped

pub size_gt : (n j : ℕ) → 2 ^ j ≤ n → j < size n
size_gt n j h = lt_of_not-le (λ (g : size n ≤ j). not-le_of_lt (lt_of_lt_of_le (size-lt n) (pow_mono g)) h)

module _ (l : List ℕ) (h : ℕ) (w : Limbs l) (t : Top l h) where
  abbrev top : ℕ
  top = get_or l h 0

  is_top : value l ≡ value (take h l) + 2 ^ (64 * h) * top
  is_top = split l h ∙ ap (λ (n : ℕ). value (take h l) + 2 ^ (64 * h) * n) (value-drop l h ∙ ap (λ (n : ℕ). top + 2 ^ 64 * n) t.above ∙ none top)
    where
      none : (a : ℕ) → a + 2 ^ 64 * 0 ≡ a
      none a = omega arith

  -- m is how many digits the limb has
  most : (m : ℕ) → top < 2 ^ m → size (value l / 2 ^ 1074) ≤ 64 * h + m - 1074
  most m g = size-le (value l / 2 ^ 1074) (64 * h + m - 1074) (shr_lt (64 * h + m - 1074) 1074 (subst (λ (n : ℕ). value l < n) (sym (pow-add 2 (64 * h) m) ∙ ap (λ (n : ℕ). 2 ^ n) (back h m t.least)) (subst (λ (n : ℕ). n < 2 ^ (64 * h) * 2 ^ m) (sym is_top) (go (value (take h l)) (2 ^ (64 * h)) top (low l h w) (mul-le-mul_left (2 ^ (64 * h)) g)))))
    where
      back : (a b : ℕ) → 17 ≤ a → 64 * a + b ≡ 64 * a + b - 1074 + 1074
      back a b k = omega arith

      go : (v P x : ℕ) → v < P → P * suc x ≤ P * 2 ^ m → v + P * x < P * 2 ^ m
      go v P x p q = omega arith

  least : (j : ℕ) → 2 ^ j ≤ top → 64 * h + j - 1074 < size (value l / 2 ^ 1074)
  least j g = size_gt (value l / 2 ^ 1074) (64 * h + j - 1074) ((le-div_iff_mul-le (pow_pos 1074)).1 (subst (λ (n : ℕ). n ≤ value l) (sym (pow-add 2 (64 * h) j) ∙ ap (λ (n : ℕ). 2 ^ n) (back h j t.least) ∙ pow-add 2 (64 * h + j - 1074) 1074) (subst (λ (n : ℕ). 2 ^ (64 * h) * 2 ^ j ≤ n) (sym is_top) (go (value (take h l)) (2 ^ (64 * h) * top) (mul-le-mul_left (2 ^ (64 * h)) g)))))
    where
      back : (a b : ℕ) → 17 ≤ a → 64 * a + b ≡ 64 * a + b - 1074 + 1074
      back a b k = omega arith

      go : (v n : ℕ) → 2 ^ (64 * h) * 2 ^ j ≤ n → 2 ^ (64 * h) * 2 ^ j ≤ v + n
      go v n p = le_trans p (more v n)
        where
          more : (a b : ℕ) → b ≤ a + b
          more a b = omega arith

  pub dropped_is : dropped_of (value l) ≡ 64 * h + 64 - count_leading_zeros 64 top - 1127
  unfolding dropped_of
  dropped_is = ⊎_elim (λ z. no_digits z) (λ p. some p) (eq-zero-or-pos top)
    where
      no_digits : top ≡ 0 → size (value l / 2 ^ 1074) - 53 ≡ 64 * h + 64 - count_leading_zeros 64 top - 1127
      no_digits z = ⊎_elim (λ e. go h (size (value l / 2 ^ 1074)) (count_leading_zeros 64 top) e (most 0 (subst (λ (n : ℕ). n < 1) (sym z) (lit< tt))) (ap (count_leading_zeros 64) z ∙ leading_of_zero 64)) (λ p. absurd (no top z p)) t.some
        where
          go : (a n k : ℕ) → a ≡ 17 → n ≤ 64 * a + 0 - 1074 → k ≡ 64 → n - 53 ≡ 64 * a + 64 - k - 1127
          go a n k e g f = omega arith

          no : (n : ℕ) → n ≡ 0 → 0 < n → ⊥
          no n e p = omega arith

      some : 0 < top → size (value l / 2 ^ 1074) - 53 ≡ 64 * h + 64 - count_leading_zeros 64 top - 1127
      some p = let q = leading_top 64 top p (w h) in go h q.0 (size (value l / 2 ^ 1074)) (count_leading_zeros 64 top) t.least q.1 (least q.0 q.2) (most (suc q.0) q.3)
        where
          go : (a j n k : ℕ) → 17 ≤ a → k + suc j ≡ 64 → 64 * a + j - 1074 < n → n ≤ 64 * a + suc j - 1074 → n - 53 ≡ 64 * a + 64 - k - 1127
          go a j n k c e f g = omega arith

-- ---- what is kept

pub kept_short : (q k : ℕ) → k ≡ dropped_of q → q / 2 ^ (1072 + k) < 2 ^ 55
unfolding dropped_of
kept_short q k e = shr_lt 55 (1072 + k) (lt_of_lt_of_le ((div-lt_iff_lt-mul (pow_pos 1074)).0 (size-lt (q / 2 ^ 1074))) (subst (λ (n : ℕ). n ≤ 2 ^ (55 + (1072 + k))) (pow-add 2 (size (q / 2 ^ 1074)) 1074) (pow_mono (go (size (q / 2 ^ 1074)) k e))))
  where
    go : (n a : ℕ) → a ≡ n - 53 → n + 1074 ≤ 55 + (1072 + a)
    go n a f = omega arith

pub marked_short : (t : Bool) (w : ℕ) → w < 2 ^ 55 → marked t w < 2 ^ 55
marked_short true w h = h
marked_short false w h = omega arith
