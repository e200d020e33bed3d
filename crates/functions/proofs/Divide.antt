-- The division of start * N by m: the quotient of the leading digits, S N / D with S = start / 2 ^ 21 and D = m / 2 ^ 21 + 1, is right or one too small,
-- and what is left comes out of wrapped arithmetic. Assumes nothing.
use Rattle.std.proofs.Common.{◌≡◌, ℕ, suc, ◌+◌, ◌-◌, ◌*◌, ◌/◌, ◌%◌, ◌^◌, ◌<◌, ◌≤◌, sym, ap, ◌∙◌, subst, lt_of_le_of_lt, mul-le-mul_right, mul_comm, mul-le-mul, lt_of_mul-lt-mul_right, mul-le-mul_left, mul-lt-mul_of_pos_right, div-mul-le_self, arith, lit<}
use native.Mathlib.Nat.{lt-div-mul-add}

-- a difference that is a word, from what it wraps to
pub unwrapped : (A K r : ℕ) → K ≤ A → A < K + 2 ^ 64 → r < 2 ^ 64 → (r + K) % 2 ^ 64 ≡ A % 2 ^ 64 → A ≡ K + r
unwrapped A K r l h w e = omega arith

module _ (start m N : ℕ) (lo : 2 ^ 61 ≤ m) (hi : m < 2 ^ 63) (sm : start < m) (np : 0 < N) (nb : N ≤ 2 ^ 22) where
  abbrev S : ℕ
  S = start / 2 ^ 21

  abbrev D : ℕ
  D = m / 2 ^ 21 + 1

  pub word : start / 2 ^ 21 * N < 2 ^ 64
  word = lt_of_le_of_lt (mul-le-mul (small start m sm hi) nb) (lit< tt)
    where
      small : (a b : ℕ) → a < b → b < 2 ^ 63 → a / 2 ^ 21 ≤ 2 ^ 42 - 1
      small a b p q = omega arith

  pub D_pos : 0 < m / 2 ^ 21 + 1
  D_pos = go (m / 2 ^ 21)
    where
      go : (a : ℕ) → 0 < a + 1
      go a = omega arith

  abbrev k : ℕ
  k = S * N / D

  pub low : k * m ≤ start * N
  low = go k S D (mul-le-mul_left k (over m)) (mul-le-mul_right (2 ^ 21) (div-mul-le_self (S * N) D)) (mul-le-mul_right N (under start))
    where
      over : (a : ℕ) → a ≤ (a / 2 ^ 21 + 1) * 2 ^ 21
      over a = omega arith

      under : (a : ℕ) → a / 2 ^ 21 * 2 ^ 21 ≤ a
      under a = omega arith

      go : (k S D : ℕ) → k * m ≤ k * (D * 2 ^ 21) → k * D * 2 ^ 21 ≤ S * N * 2 ^ 21 → S * 2 ^ 21 * N ≤ start * N → k * m ≤ start * N
      go k S D p q r = omega arith

  pub fewer : (j : ℕ) → j * m ≤ start * N → j < N
  fewer j h = lt_of_mul-lt-mul_right m (lt_of_le_of_lt h (subst (λ (n : ℕ). start * N < n) (mul_comm m N) (mul-lt-mul_of_pos_right sm np)))

  pub high : start * N ≤ k * m + m + 2 ^ 44
  high = go k S D (mul-le-mul_right N (over start)) (mul-le-mul_right (2 ^ 21) (lt-div-mul-add D_pos)) (mul-le-mul_left (k + 1) (under m)) (fewer k low) nb
    where
      over : (a : ℕ) → a ≤ (a / 2 ^ 21 + 1) * 2 ^ 21
      over a = omega arith

      under : (a : ℕ) → (a / 2 ^ 21 + 1) * 2 ^ 21 ≤ a + 2 ^ 21
      under a = omega arith

      go : (k S D : ℕ) → start * N ≤ (S + 1) * 2 ^ 21 * N → suc (S * N) * 2 ^ 21 ≤ (k * D + D) * 2 ^ 21 → (k + 1) * (D * 2 ^ 21) ≤ (k + 1) * (m + 2 ^ 21) → k < N → N ≤ 2 ^ 22 → start * N ≤ k * m + m + 2 ^ 44
      go k S D p q r s t = omega arith

  -- what is left is exact
  module _ (r : ℕ) (rw : r < 2 ^ 64) (e : (r + k * m) % 2 ^ 64 ≡ start * N % 2 ^ 64) where
    pub exact : start * N ≡ k * m + r
    exact = unwrapped (start * N) (k * m) r low (go (start * N) (k * m) high hi) rw e
      where
        go : (A K : ℕ) → A ≤ K + m + 2 ^ 44 → m < 2 ^ 63 → A < K + 2 ^ 64
        go A K p q = omega arith

    pub once_more : m ≤ r → (start * N ≡ (k + 1) * m + (r - m)) × (r - m < m) × (k + 1 < N)
    once_more h = (
      exact ∙ more (k * m) h ∙ ap (λ (n : ℕ). n + (r - m)) (sym (next k m)),
      short (start * N) (k * m) exact high lo,
      fewer (k + 1) (subst (λ (n : ℕ). n ≤ start * N) (sym (next k m)) (under (start * N) (k * m) exact h)),
    )
      where
        next : (a b : ℕ) → (a + 1) * b ≡ a * b + b
        next a b = omega arith

        more : (K : ℕ) → m ≤ r → K + r ≡ (K + m) + (r - m)
        more K p = omega arith

        short : (A K : ℕ) → A ≡ K + r → A ≤ K + m + 2 ^ 44 → 2 ^ 61 ≤ m → r - m < m
        short A K p q s = omega arith

        under : (A K : ℕ) → A ≡ K + r → m ≤ r → K + m ≤ A
        under A K p q = omega arith
