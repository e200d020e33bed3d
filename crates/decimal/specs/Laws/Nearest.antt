-- Which whole number a fraction rounds to, and which float: by the edges half a step above and below. Clients cite nothing here. Assumes nothing.
use Rattle.std.specs.Prelude.{◌≡◌, refl, ◌⊎◌, Bool, not, pos, T, eqb, Float}
use Rattle.std.proofs.Common.{sym, ap, ◌∙◌, subst, inl, inr, ⊎_elim, le_antisymm, lt_of_lt_of_le, lt_of_not-le, not-le_of_lt, mul_comm, mul_assoc, mul_right_comm, mul-pos, mul-le-mul_right, mod-lt, div-add-mod', div-lt_iff_lt-mul, le-div_iff_mul-le, pow-suc, arith, leb→le, eqb→eq, lit<, pow-add, pow_pos, pow_mono}
use Prim.Native.Nat.{ℕ, zero, suc, ◌+◌, ◌-◌, ◌*◌, ◌/◌, ◌%◌, ◌^◌, ◌≤◌, ◌<◌, compare, Ordering}
use Rattle.std.proofs.Math.Dec.{is_le, compare_is_eq, nleb→lt, eqb_refl}
use Rattle.std.proofs.Math.Arith.{lt_of_le-ne}
use Rattle.std.specs.Float.{fin, binary64}
use Rattle.std.specs.Float.Ieee.{size, nearest, units, round, fits}
use Rattle.std.specs.Float.Ieee.Digits.{size-lt, size-le}
use Rattle.std.specs.Float.Ieee.Fits.{round_is, round-fits}
use Rattle.std.specs.Float.Ieee.Exact.{HasValue, units_val}
use Rattle.std.specs.Float.Ieee.Nearest.{closest}
use Rattle.loops.specs.Laws.Loop.{le_or_lt, three}
use Rattle.exact.specs.Laws.Bits.{same_float}

-- ---- the nearest whole number

-- what `compare` says
abbrev Compared : Ordering → ℕ → ℕ → Type 0
Compared Ordering.lt a b = a < b
Compared Ordering.eq a b = a ≡ b
Compared Ordering.gt a b = b < a

compared : (a b : ℕ) → Compared (compare a b) a b
compared a b = go (compare a b) (leb→le a b) (nleb→lt a b) (eqb→eq a b) (λ (e : a ≡ b). subst (λ (x : ℕ). T (eqb a x)) e (eqb_refl a))
  where
    go : (o : Ordering) → (T (is_le o) → a ≤ b) → (T (not (is_le o)) → b < a) → (T (compare_is_eq o) → a ≡ b) → (a ≡ b → T (compare_is_eq o)) → Compared o a b
    go Ordering.lt h k e n = lt_of_le-ne (h tt) n
    go Ordering.eq h k e n = e tt
    go Ordering.gt h k e n = k tt

-- q is at most half away from a / b, and if just half then q is even
module _ (a b q : ℕ) (B : 0 < b) (lo : 2 * (q * b) ≤ 2 * a + b) (hi : 2 * a ≤ 2 * (q * b) + b) (even-lo : 2 * a + b ≡ 2 * (q * b) → q % 2 ≡ 0) (even-hi : 2 * a ≡ 2 * (q * b) + b → q % 2 ≡ 0) where
  at_most : (p r : ℕ) → (r < p → ⊥) → p ≤ r
  at_most p r f = ⊎_elim (λ h. h) (λ h. absurd (f h)) (le_or_lt p r)

  below_half : (w r : ℕ) → w * b + r ≡ a → r * 2 < b → w ≡ q
  below_half w r e h =
      le_antisymm
      (at_most w q (λ g. over g (mul-le-mul_right b g)))
      (at_most q w (λ g. under g (mul-le-mul_right b g)))
    where
      over : q < w → suc q * b ≤ w * b → ⊥
      over g k = omega arith

      under : w < q → suc w * b ≤ q * b → ⊥
      under g k = omega arith

  above_half : (w r : ℕ) → w * b + r ≡ a → b < r * 2 → r < b → suc w ≡ q
  above_half w r e h l =
      le_antisymm
      (at_most (suc w) q (λ g. over g (mul-le-mul_right b g)))
      (at_most q (suc w) (λ g. under g (mul-le-mul_right b g)))
    where
      over : q < suc w → suc q * b ≤ suc w * b → ⊥
      over g k = omega arith

      under : suc w < q → suc (suc w) * b ≤ q * b → ⊥
      under g k = omega arith

  at_half : (w r : ℕ) → w * b + r ≡ a → r * 2 ≡ b → w + w % 2 ≡ q
  at_half w r e h = ⊎_elim (λ z. same z) (λ z. ⊎_elim (λ u. less u (mul-le-mul_right b u)) (λ u. more u) z) (three q w)
    where
      same : q ≡ w → w + w % 2 ≡ q
      same z = go (even-hi (half (ap (λ (n : ℕ). n * b) z)))
        where
          half : q * b ≡ w * b → 2 * a ≡ 2 * (q * b) + b
          half k = omega arith

          go : q % 2 ≡ 0 → w + w % 2 ≡ q
          go k = subst (λ (n : ℕ). n + n % 2 ≡ q) z (none q k)
            where
              none : (n : ℕ) → n % 2 ≡ 0 → n + n % 2 ≡ n
              none n p = omega arith

      less : q < w → suc q * b ≤ w * b → w + w % 2 ≡ q
      less g k = absurd (no k)
        where
          no : suc q * b ≤ w * b → ⊥
          no p = omega arith

      more : w < q → w + w % 2 ≡ q
      more g = next (le_antisymm g (at_most q (suc w) (λ u. under u (mul-le-mul_right b u))))
        where
          under : suc w < q → suc (suc w) * b ≤ q * b → ⊥
          under u k = omega arith

          next : suc w ≡ q → w + w % 2 ≡ q
          next z = up (even-lo (half (ap (λ (n : ℕ). n * b) z))) z
            where
              half : suc w * b ≡ q * b → 2 * a + b ≡ 2 * (q * b)
              half k = omega arith

              up : q % 2 ≡ 0 → suc w ≡ q → w + w % 2 ≡ q
              up k y = omega arith

  pub closest_is : closest a b ≡ q
  closest_is = go (compare (a % b * 2) b) (compared (a % b * 2) b)
    where
      go : (o : Ordering) → Compared o (a % b * 2) b → nearest (a / b) o ≡ q
      go Ordering.lt h = below_half (a / b) (a % b) (div-add-mod' a b) h
      go Ordering.eq h = at_half (a / b) (a % b) (div-add-mod' a b) h
      go Ordering.gt h = above_half (a / b) (a % b) (div-add-mod' a b) h (mod-lt a B)

parity : (n : ℕ) → (n % 2 ≡ 0) ⊎ (n % 2 ≡ 1)
parity n = go (n % 2) (mod-lt n (lit< tt))
  where
    go : (r : ℕ) → r < 2 → (r ≡ 0) ⊎ (r ≡ 1)
    go zero h = inl refl
    go (suc zero) h = inr refl
    go (suc (suc r)) h = absurd (no r h)
      where
        no : (k : ℕ) → suc (suc k) < 2 → ⊥
        no k p = omega arith

-- 4 n lies between the edges L and 4 m + 2, in units of U, and inside them where m is odd
pub record Between (m n U L : ℕ) : Type 0 where
  pub lo : L * U ≤ 4 * n
  pub hi : 4 * n ≤ (4 * m + 2) * U
  pub lo_odd : m % 2 ≡ 1 → L * U < 4 * n
  pub hi_odd : m % 2 ≡ 1 → 4 * n < (4 * m + 2) * U

-- so n / U rounds to m, where L is half a step below m or higher
steps_are : (m n U L : ℕ) → 0 < U → 4 * m ≤ L + 2 → Between m n U L → closest n U ≡ m
steps_are m n U L p l s = closest_is n U m p (low (mul-le-mul_right U l)) high (λ e. ⊎_elim (λ z. z) (λ z. absurd (no_lo (mul-le-mul_right U l) (s.lo_odd z) e)) (parity m)) (λ e. ⊎_elim (λ z. z) (λ z. absurd (no_hi (s.hi_odd z) e)) (parity m))
  where
    lows : L * U ≤ 4 * n
    lows = s.lo

    highs : 4 * n ≤ (4 * m + 2) * U
    highs = s.hi

    low : 4 * m * U ≤ (L + 2) * U → 2 * (m * U) ≤ 2 * n + U
    low k = omega (arith, lows)

    high : 2 * n ≤ 2 * (m * U) + U
    high = omega (arith, highs)

    no_lo : 4 * m * U ≤ (L + 2) * U → L * U < 4 * n → 2 * n + U ≡ 2 * (m * U) → ⊥
    no_lo k h e = omega arith

    no_hi : 4 * n < (4 * m + 2) * U → 2 * n ≡ 2 * (m * U) + U → ⊥
    no_hi h e = omega arith

-- ---- the nearest float

size_gt : (n j : ℕ) → 2 ^ j ≤ n → j < size n
size_gt n j h = lt_of_not-le (λ (g : size n ≤ j). not-le_of_lt (lt_of_lt_of_le (size-lt n) (pow_mono g)) h)

-- m steps of 2 ^ j units; L is the lower edge in quarter steps: a quarter of a step below a power of two that has closer floats below it, half a step otherwise
pub record Steps (m j L : ℕ) : Type 0 where
  pub few : m < 2 ^ 53
  pub near : 4 * m ≤ L + 2
  pub lead : (j ≡ 0) ⊎ ((2 ^ 54 ≤ L) ⊎ ((m ≡ 2 ^ 52) × (0 < j) × (L ≡ 2 ^ 54 - 1)))

module _ (m n e j L : ℕ) (E : 0 < e) (t : Steps m j L) (s : Between m n (e * 2 ^ j) L) where
  unit : 0 < e * 2 ^ j
  unit = mul-pos E (pow_pos j)

  -- the number of digits, from above
  size_top : size (n / e) ≤ 53 + j
  size_top = size-le (n / e) (53 + j) ((div-lt_iff_lt-mul E).1 (subst (λ (z : ℕ). n < z) (whole (2 ^ j)) (go (e * 2 ^ j) unit s.hi (mul-le-mul_right (e * 2 ^ j) t.few))))
    where
      go : (U : ℕ) → 0 < U → 4 * n ≤ (4 * m + 2) * U → suc m * U ≤ 2 ^ 53 * U → n < 2 ^ 53 * U
      go U p h k = omega arith

      whole : (P : ℕ) → 2 ^ 53 * (e * 2 ^ j) ≡ 2 ^ (53 + j) * e
      whole P = mul_comm (2 ^ 53) (e * 2 ^ j) ∙ mul_assoc e (2 ^ j) (2 ^ 53) ∙ mul_comm e (2 ^ j * 2 ^ 53) ∙ ap (λ (z : ℕ). z * e) (mul_comm (2 ^ j) (2 ^ 53) ∙ sym (pow-add 2 53 j))

  at_place : (k q : ℕ) → size (n / e) - 53 ≡ k → closest n (e * 2 ^ k) ≡ q → q * 2 ^ k ≡ m * 2 ^ j → closest n (e * 2 ^ (size (n / e) - 53)) * 2 ^ (size (n / e) - 53) ≡ m * 2 ^ j
  at_place k q z c f = ap (λ (i : ℕ). closest n (e * 2 ^ i) * 2 ^ i) z ∙ ap (λ (i : ℕ). i * 2 ^ k) c ∙ f

  here : size (n / e) - 53 ≡ j → closest n (e * 2 ^ (size (n / e) - 53)) * 2 ^ (size (n / e) - 53) ≡ m * 2 ^ j
  here z = at_place j m z (steps_are m n (e * 2 ^ j) L unit t.near s) refl

  -- no place to drop
  at_zero : j ≡ 0 → size (n / e) - 53 ≡ j
  at_zero z = go (size (n / e)) j size_top z
    where
      go : (a b : ℕ) → a ≤ 53 + b → b ≡ 0 → a - 53 ≡ b
      go a b h k = omega arith

  reach : (i : ℕ) → 2 ^ i * (e * 2 ^ j) ≤ n → i + j < size (n / e)
  reach i h = size_gt (n / e) (i + j) ((le-div_iff_mul-le E).1 (subst (λ (z : ℕ). z ≤ n) (whole i) h))
    where
      whole : (k : ℕ) → 2 ^ k * (e * 2 ^ j) ≡ 2 ^ (k + j) * e
      whole k = sym (mul_assoc (2 ^ k) e (2 ^ j)) ∙ mul_right_comm (2 ^ k) e (2 ^ j) ∙ ap (λ (z : ℕ). z * e) (sym (pow-add 2 k j))

  full : 2 ^ 52 * (e * 2 ^ j) ≤ n → size (n / e) - 53 ≡ j
  full h = go (size (n / e)) j size_top (reach 52 h)
    where
      go : (a b : ℕ) → a ≤ 53 + b → 52 + b < a → a - 53 ≡ b
      go a b p q = omega arith

  -- just below a power of two: one place less, and twice the digits
  lower : m ≡ 2 ^ 52 → 0 < j → L ≡ 2 ^ 54 - 1 → n < 2 ^ 52 * (e * 2 ^ j) → closest n (e * 2 ^ (size (n / e) - 53)) * 2 ^ (size (n / e) - 53) ≡ m * 2 ^ j
  lower M J Z h =
      at_place (j - 1) (2 ^ 53) (go (size (n / e)) j J top (reach 51 (half (e * 2 ^ j) (rw Z at s.lo))))
      (closest_is n (e * 2 ^ (j - 1)) (2 ^ 53) (mul-pos E (pow_pos (j - 1))) (under (e * 2 ^ (j - 1)) (rw (Z, twice) at s.lo)) (above (e * 2 ^ (j - 1)) (rw twice at h)) (λ _. refl) (λ _. refl))
      (ap (λ (z : ℕ). z * 2 ^ (j - 1)) (pow-add 2 52 1) ∙ mul_assoc (2 ^ 52) 2 (2 ^ (j - 1)) ∙ (λ i. sym M i * pow i))
    where
      back : (a : ℕ) → 0 < a → a ≡ suc (a - 1)
      back a p = omega arith

      pow : 2 * 2 ^ (j - 1) ≡ 2 ^ j
      pow = mul_comm 2 (2 ^ (j - 1)) ∙ sym (pow-suc 2 (j - 1)) ∙ ap (λ (z : ℕ). 2 ^ z) (sym (back j J))

      twice : e * 2 ^ j ≡ 2 * (e * 2 ^ (j - 1))
      twice = ap (λ (z : ℕ). e * z) (sym pow) ∙ swap (2 ^ (j - 1))
        where
          swap : (P : ℕ) → e * (2 * P) ≡ 2 * (e * P)
          swap P = omega arith

      top : size (n / e) ≤ 52 + j
      top = size-le (n / e) (52 + j) ((div-lt_iff_lt-mul E).1 (subst (λ (z : ℕ). n < z) (sym (mul_assoc (2 ^ 52) e (2 ^ j)) ∙ mul_right_comm (2 ^ 52) e (2 ^ j) ∙ ap (λ (z : ℕ). z * e) (sym (pow-add 2 52 j))) h))

      go : (a b : ℕ) → 0 < b → a ≤ 52 + b → 51 + b < a → a - 53 ≡ b - 1
      go a b p q r = omega arith

      half : (U : ℕ) → (2 ^ 54 - 1) * U ≤ 4 * n → 2 ^ 51 * U ≤ n
      half U p = omega arith

      under : (W : ℕ) → (2 ^ 54 - 1) * (2 * W) ≤ 4 * n → 2 * (2 ^ 53 * W) ≤ 2 * n + W
      under W p = omega arith

      above : (W : ℕ) → n < 2 ^ 52 * (2 * W) → 2 * n ≤ 2 * (2 ^ 53 * W) + W
      above W p = omega arith

  -- n / e, rounded as a float is, is m steps
  pub grid_is : closest n (e * 2 ^ (size (n / e) - 53)) * 2 ^ (size (n / e) - 53) ≡ m * 2 ^ j
  grid_is = ⊎_elim (λ z. here (at_zero z)) (λ z. ⊎_elim (λ h. here (full (high (e * 2 ^ j) s.lo (mul-le-mul_right (e * 2 ^ j) h)))) (λ h. ⊎_elim (λ g. here (full g)) (λ g. lower h.0 h.1 h.2 g) (le_or_lt (2 ^ 52 * (e * 2 ^ j)) n)) z) t.lead
    where
      high : (U : ℕ) → L * U ≤ 4 * n → 2 ^ 54 * U ≤ L * U → 2 ^ 52 * U ≤ n
      high U p q = omega arith

-- ---- the nearest float

-- a fraction between the edges of x rounds to x
pub rounds_to : (x : Float) (s : Bool) (m j L a e : ℕ) → T (fits binary64 x) → HasValue x s (m * 2 ^ j) (2 ^ 1074) → m * 2 ^ j < 2 ^ 2098 → 0 < e → Steps m j L → Between m (a * 2 ^ 1074) (e * 2 ^ j) L → round binary64 s a e ≡ x
rounds_to x s m j L a e F v few E t b =
    let n = a * 2 ^ 1074 in
    let k = size (n / e) - 53 in
    let q = closest n (e * 2 ^ k) in
    let g : q * 2 ^ k ≡ m * 2 ^ j = grid_is m n e j L E t b in
    let w : HasValue (units binary64 s q k) s (q * 2 ^ k) (2 ^ 1074) = units_val binary64 s q k (subst (λ (z : ℕ). z < 2 ^ 2098) (sym g) few) in
    same_float (round binary64 s a e) x s (m * 2 ^ j) (round-fits binary64 s a e) F
    (subst (λ (z : Float). HasValue z s (m * 2 ^ j) (2 ^ 1074)) (sym (round_is binary64 s a e)) (subst (λ (z : ℕ). HasValue (units binary64 s q k) s z (2 ^ 1074)) g w)) v

-- a zero reads as itself
pub zero_is : (x : Float) (s : Bool) → T (fits binary64 x) → HasValue x s 0 (2 ^ 1074) → fin s 0 (pos 0) ≡ x
unfolding fits
zero_is x s F v = same_float (fin s 0 (pos 0)) x s 0 tt F (refl, refl) v
