-- f is at most half of the modulus, and its word, in units of 2 ^ -64, lacks less than one unit. Below 1/4 a size is its own f. Assumes nothing.
use Rattle.std.specs.Prelude.{◌≡◌, ℕ, ◌+◌, ◌*◌, ◌/◌, ◌^◌, ◌<◌, ◌≤◌, false, nat_lt}
use Rattle.std.proofs.Math.Path.{ap}
use Rattle.std.proofs.Common.{◌∙◌, mul-le-mul_right, le_of_lt, div-mul-le_self}
use Rattle.std.proofs.Math.Nat.{lt-div-mul-add, div-le_of_le-mul, div-eq_of_lt}
use native.Mathlib.Omega.{arith}
use borrow.Author.Tests.{le-ltb}
use Rattle.functions.specs.Fraction.{apart}
use Rattle.functions.specs.Reduction.{nearest_of, left_of, below_of}

module _ (M n d : ℕ) (mp : 0 < M * d) (dp : 0 < d) where
  pub left_small : 2 * left_of M n d ≤ M * d
  unfolding left_of nearest_of
  left_small =
      let N = n * 2 ^ 64 in
      let e = M * d in
      go N e ((2 * N + e) / (2 * e)) (div-mul-le_self (2 * N + e) (2 * e)) (lt-div-mul-add (double e mp))
    where
      double : (a : ℕ) → 0 < a → 0 < 2 * a
      double a p = omega arith

      split : (N K e : ℕ) → 2 * K ≤ 2 * N + e → 2 * N + e < 2 * K + 2 * e → 2 * apart N K ≤ e
      split N K e p q = omega arith

      go : (N e k : ℕ) → k * (2 * e) ≤ 2 * N + e → 2 * N + e < k * (2 * e) + 2 * e → 2 * apart N (k * e) ≤ e
      go N e k p q = split N (k * e) e (omega arith) (omega arith)

  -- h is half of the modulus
  pub word_small : (h : ℕ) → M ≤ 2 * h → left_of M n d / d ≤ h
  word_small h w = div-le_of_le-mul d (half (left_of M n d) left_small (mul-le-mul_right d w))
    where
      half : (r : ℕ) → 2 * r ≤ M * d → M * d ≤ 2 * h * d → r ≤ d * h
      half r p q = omega arith

  pub word_low : left_of M n d / d * (2 ^ 64 * d) ≤ left_of M n d * 2 ^ 64
  word_low = go (left_of M n d / d) (mul-le-mul_right (2 ^ 64) (div-mul-le_self (left_of M n d) d))
    where
      go : (w : ℕ) → w * d * 2 ^ 64 ≤ left_of M n d * 2 ^ 64 → w * (2 ^ 64 * d) ≤ left_of M n d * 2 ^ 64
      go w p = omega arith

  pub word_high : left_of M n d * 2 ^ 64 ≤ (left_of M n d / d + 1) * (2 ^ 64 * d)
  word_high = go (left_of M n d / d) (left_of M n d) (mul-le-mul_right (2 ^ 64) (le_of_lt (lt-div-mul-add dp)))
    where
      go : (w r : ℕ) → r * 2 ^ 64 ≤ (w * d + d) * 2 ^ 64 → r * 2 ^ 64 ≤ (w + 1) * (2 ^ 64 * d)
      go w r p = omega arith

-- below 1/4, by a modulus of 1/2 or more
module _ (M n d : ℕ) (lo : 2 ^ 63 ≤ M) (small : 4 * n < d) where
  pub no_turns : nearest_of M n d ≡ 0
  unfolding nearest_of
  no_turns = div-eq_of_lt (go n d (mul-le-mul_right d lo) small)
    where
      go : (a b : ℕ) → 2 ^ 63 * b ≤ M * b → 4 * a < b → 2 * (a * 2 ^ 64) + M * b < 2 * (M * b)
      go a b p q = omega arith

  pub all_left : left_of M n d ≡ n * 2 ^ 64
  unfolding left_of
  all_left = ap (λ (a : ℕ). apart (n * 2 ^ 64) (a * (M * d))) no_turns ∙ go (n * 2 ^ 64) (M * d)
    where
      go : (a b : ℕ) → apart a (0 * b) ≡ a
      go a b = omega arith

  pub no_side : below_of M n d ≡ false
  unfolding below_of
  no_side = ap (λ (a : ℕ). nat_lt (n * 2 ^ 64) (a * (M * d))) no_turns ∙ le-ltb (n * 2 ^ 64) (0 * (M * d)) (omega arith)
