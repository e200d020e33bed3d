-- The bits of a float, by its digits and the place of the lowest: the field counts the place, the leading digit adds one to it, and from infinity's bits on it is infinity. Assumes nothing.
use Rattle.std.proofs.Common.{◌≡◌, ℕ, ◌+◌, ◌-◌, ◌*◌, ◌/◌, ◌^◌, ◌<◌, ◌≤◌, Bool, true, false, cond, T, ltb, ◌⊎◌, sym, refl, ap, ◌∙◌, subst, ⊎_elim, le_trans, lt_of_le_of_lt, add_assoc, mul-le-mul_right, mul_assoc, mul_comm, mul-le-mul, eq-or-lt_of_le, not-le_of_lt, le_of_mul-le-mul_right, mul-div_cancel, arith, lit<, lit≤, pow_pos, pow_mono, pow-add, shl_lt, ltb-false, ltb-true}
use Prim.Native.Nat.{compare, Ordering}
use native.Mathlib.Nat.{min-eq_left, min-eq_right}
use lib.Ieee.{inf, binary64, size, odd, units, to_bits, of_bits, fits}
use lib.Ieee.Bits.{of_bits-to_bits}
use lib.Ieee.Digits.{size-le}
use lib.Ieee.Exact.{units_val}
use Rattle.exact.specs.Laws.Bits.{bits_are}
use Rattle.mean.specs.Leading.{pattern_of}
use Rattle.mean.proofs.Places.{size_gt}
use Rattle.mean.proofs.Sticky.{Compared, compared}

infinite_bits : (s : Bool) → to_bits binary64 (inf s) ≡ cond s (2 ^ 63) 0 + 2047 * 2 ^ 52
unfolding to_bits
infinite_bits s = refl

units_large : (s : Bool) (q k : ℕ) → ltb (q * 2 ^ k) (2 ^ 2098) ≡ false → units binary64 s q k ≡ inf s
unfolding units
units_large s q k h = ap (λ (b : Bool). cond b (odd 54 s q k 1074) (inf s)) h

-- q digits at the place k: 53 digits and the next power of two, and all 53 above the lowest place
module _ (q k : ℕ) (Q : q ≤ 2 ^ 53) (K : (k ≡ 0) ⊎ (2 ^ 52 ≤ q)) where
  -- the field and the digits below the leading one, joined
  at_place : (z m : ℕ) → size (q * 2 ^ k) - 53 ≡ z → q * 2 ^ k ≡ m * 2 ^ z → (size (q * 2 ^ k) - 53) * 2 ^ 52 + q * 2 ^ k / 2 ^ (size (q * 2 ^ k) - 53) ≡ z * 2 ^ 52 + m
  at_place z m e f = ap (λ (n : ℕ). n * 2 ^ 52 + q * 2 ^ k / 2 ^ n) e ∙ ap (λ (n : ℕ). z * 2 ^ 52 + n) (ap (λ (n : ℕ). n / 2 ^ z) f ∙ mul-div_cancel m (pow_pos z))

  full : (j : ℕ) → 2 ^ j ≤ q → j + k < size (q * 2 ^ k)
  full j h = size_gt (q * 2 ^ k) (j + k) (subst (λ (n : ℕ). n ≤ q * 2 ^ k) (sym (pow-add 2 j k)) (mul-le-mul_right (2 ^ k) h))

  joined : (size (q * 2 ^ k) - 53) * 2 ^ 52 + q * 2 ^ k / 2 ^ (size (q * 2 ^ k) - 53) ≡ k * 2 ^ 52 + q
  joined = ⊎_elim (λ e. power e) (λ l. digits l) (eq-or-lt_of_le Q)
    where
      digits : q < 2 ^ 53 → (size (q * 2 ^ k) - 53) * 2 ^ 52 + q * 2 ^ k / 2 ^ (size (q * 2 ^ k) - 53) ≡ k * 2 ^ 52 + q
      digits l = at_place k q (⊎_elim (λ z. low (size (q * 2 ^ k)) top z) (λ g. high (size (q * 2 ^ k)) top (full 52 g)) K) refl
        where
          top : size (q * 2 ^ k) ≤ 53 + k
          top = size-le (q * 2 ^ k) (53 + k) (shl_lt 53 k l)

          low : (n : ℕ) → n ≤ 53 + k → k ≡ 0 → n - 53 ≡ k
          low n a b = omega arith

          high : (n : ℕ) → n ≤ 53 + k → 52 + k < n → n - 53 ≡ k
          high n a b = omega arith

      power : q ≡ 2 ^ 53 → (size (q * 2 ^ k) - 53) * 2 ^ 52 + q * 2 ^ k / 2 ^ (size (q * 2 ^ k) - 53) ≡ k * 2 ^ 52 + q
      power e =
          at_place (k + 1) (2 ^ 52) (place (size (q * 2 ^ k)) (size-le (q * 2 ^ k) (54 + k) (shl_lt 54 k (less q e))) (full 53 (least q e)))
          (ap (λ (n : ℕ). n * 2 ^ k) e ∙ mul_assoc (2 ^ 52) 2 (2 ^ k) ∙ ap (λ (n : ℕ). 2 ^ 52 * n) (mul_comm 2 (2 ^ k) ∙ sym (pow-add 2 k 1)))
          ∙ sum k q e
        where
          less : (n : ℕ) → n ≡ 2 ^ 53 → n < 2 ^ 54
          less n f = omega arith

          least : (n : ℕ) → n ≡ 2 ^ 53 → 2 ^ 53 ≤ n
          least n f = omega arith

          place : (n : ℕ) → n ≤ 54 + k → 53 + k < n → n - 53 ≡ k + 1
          place n a b = omega arith

          sum : (a n : ℕ) → n ≡ 2 ^ 53 → (a + 1) * 2 ^ 52 + 2 ^ 52 ≡ a * 2 ^ 52 + n
          sum a n f = omega arith

  -- below the largest power: so are the bits
  under : q * 2 ^ k < 2 ^ 2098 → k * 2 ^ 52 + q ≤ 2047 * 2 ^ 52
  under h = go (compare k 2045) (compared k 2045)
    where
      no : 2046 ≤ k → ⊥
      no g = ⊎_elim (λ z. none k z g) (λ l. not-le_of_lt h (le_trans (lit≤ {m = 2 ^ 2098} {n = 2 ^ 52 * 2 ^ 2046} tt) (mul-le-mul l (pow_mono g)))) K
        where
          none : (a : ℕ) → a ≡ 0 → 2046 ≤ a → ⊥
          none a e f = omega arith

      go : (o : Ordering) → Compared o k 2045 → k * 2 ^ 52 + q ≤ 2047 * 2 ^ 52
      go Ordering.lt l = omega arith
      go Ordering.eq e = omega arith
      go Ordering.gt l = absurd (no l)

  over : 2 ^ 2098 ≤ q * 2 ^ k → 2047 * 2 ^ 52 ≤ k * 2 ^ 52 + q
  over h = go (compare k 2045) (compared k 2045)
    where
      small : k ≤ 2044 → ⊥
      small g = not-le_of_lt (lt_of_le_of_lt (mul-le-mul Q (pow_mono g)) (lit< {m = 2 ^ 53 * 2 ^ 2044} {n = 2 ^ 2098} tt)) h

      just : k ≡ 2045 → 2 ^ 53 ≤ q
      just e = le_of_mul-le-mul_right (le_trans (lit≤ {m = 2 ^ 53 * 2 ^ 2045} {n = 2 ^ 2098} tt) (subst (λ (n : ℕ). 2 ^ 2098 ≤ q * 2 ^ n) e h)) (pow_pos 2045)

      go : (o : Ordering) → Compared o k 2045 → 2047 * 2 ^ 52 ≤ k * 2 ^ 52 + q
      go Ordering.lt l = absurd (small (less k l))
        where
          less : (a : ℕ) → a < 2045 → a ≤ 2044
          less a g = omega arith
      go Ordering.eq e = sum k q e (just e)
        where
          sum : (a n : ℕ) → a ≡ 2045 → 2 ^ 53 ≤ n → 2047 * 2 ^ 52 ≤ a * 2 ^ 52 + n
          sum a n f g = omega arith
      go Ordering.gt l = ⊎_elim (λ z. none k z l) (λ g. sum k q l g) K
        where
          none : (a : ℕ) → a ≡ 0 → 2045 < a → 2047 * 2 ^ 52 ≤ a * 2 ^ 52 + q
          none a e f = omega arith

          sum : (a n : ℕ) → 2045 < a → 2 ^ 52 ≤ n → 2047 * 2 ^ 52 ≤ a * 2 ^ 52 + n
          sum a n f g = omega arith

  bits : (s : Bool) → to_bits binary64 (units binary64 s q k) ≡ cond s (2 ^ 63) 0 + pattern_of k q
  bits s = go (ltb (q * 2 ^ k) (2 ^ 2098)) refl
    where
      go : (t : Bool) → ltb (q * 2 ^ k) (2 ^ 2098) ≡ t → to_bits binary64 (units binary64 s q k) ≡ cond s (2 ^ 63) 0 + pattern_of k q
      go true e =
          let h : q * 2 ^ k < 2 ^ 2098 = ltb-true (q * 2 ^ k) (2 ^ 2098) e in
          bits_are (units binary64 s q k) s (q * 2 ^ k) (units_val binary64 s q k h)
          ∙ add_assoc (cond s (2 ^ 63) 0) ((size (q * 2 ^ k) - 53) * 2 ^ 52) (q * 2 ^ k / 2 ^ (size (q * 2 ^ k) - 53))
          ∙ ap (λ (n : ℕ). cond s (2 ^ 63) 0 + n) (joined ∙ sym (min-eq_left (under h)))
      go false e =
          ap (to_bits binary64) (units_large s q k e) ∙ infinite_bits s
          ∙ ap (λ (n : ℕ). cond s (2 ^ 63) 0 + n) (sym (min-eq_right (over (ltb-false (q * 2 ^ k) (2 ^ 2098) e))))

  pub pattern : (s : Bool) → T (fits binary64 (units binary64 s q k)) → units binary64 s q k ≡ of_bits binary64 (cond s (2 ^ 63) 0 + pattern_of k q)
  pattern s F = sym (of_bits-to_bits binary64 (units binary64 s q k) F) ∙ ap (of_bits binary64) (bits s)
