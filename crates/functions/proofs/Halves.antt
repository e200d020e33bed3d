-- A product of two words by their halves of 32 bits: each column fits a word, and the columns' carries make the upper half. Assumes nothing.
use Rattle.std.proofs.Common.{◌≡◌, ℕ, ◌+◌, ◌*◌, ◌/◌, ◌%◌, ◌^◌, ◌<◌, ◌≤◌, sym, ap, ◌∙◌, subst, le_trans, le_of_lt, mul-le-mul_right, mul_comm, mul-le-mul, arith, lit≤, w64, Fits}
use native.Mathlib.Nat.{div-le_of_le-mul}

-- a half is at most 2 ^ 32 - 1, and a product of two halves at most the square of that
abbrev pub most : ℕ
most = 4294967295

pub high : (x : ℕ) → x < 2 ^ 64 → x / 2 ^ 32 ≤ most
high x h = omega arith

pub low : (x : ℕ) → x % 2 ^ 32 ≤ most
low x = omega arith

pub column : {x y : ℕ} → x ≤ most → y ≤ most → x * y ≤ 18446744065119617025
column p q = le_trans (mul-le-mul p q) (lit≤ tt)

-- the whole product by its four columns
whole : (x₁ x₀ y₁ y₀ : ℕ) → (x₁ * 2 ^ 32 + x₀) * (y₁ * 2 ^ 32 + y₀) ≡ x₁ * y₁ * 2 ^ 64 + (x₁ * y₀ + x₀ * y₁) * 2 ^ 32 + x₀ * y₀
whole x₁ x₀ y₁ y₀ = omega arith

carries : (hh hl lh ll : ℕ) → hh + (hl + ll / 2 ^ 32) / 2 ^ 32 + (lh + (hl + ll / 2 ^ 32) % 2 ^ 32) / 2 ^ 32 ≡ (hh * 2 ^ 64 + (hl + lh) * 2 ^ 32 + ll) / 2 ^ 64
carries hh hl lh ll = omega arith

split : (x : ℕ) → x / 2 ^ 32 * 2 ^ 32 + x % 2 ^ 32 ≡ x
split x = omega arith

pub upper_half : (a b : ℕ)
    → a / 2 ^ 32 * (b / 2 ^ 32) + (a / 2 ^ 32 * (b % 2 ^ 32) + a % 2 ^ 32 * (b % 2 ^ 32) / 2 ^ 32) / 2 ^ 32
    + (a % 2 ^ 32 * (b / 2 ^ 32) + (a / 2 ^ 32 * (b % 2 ^ 32) + a % 2 ^ 32 * (b % 2 ^ 32) / 2 ^ 32) % 2 ^ 32) / 2 ^ 32 ≡ a * b / 2 ^ 64
upper_half a b =
    carries (a / 2 ^ 32 * (b / 2 ^ 32)) (a / 2 ^ 32 * (b % 2 ^ 32)) (a % 2 ^ 32 * (b / 2 ^ 32)) (a % 2 ^ 32 * (b % 2 ^ 32))
    ∙ ap (λ (n : ℕ). n / 2 ^ 64) (sym (whole (a / 2 ^ 32) (a % 2 ^ 32) (b / 2 ^ 32) (b % 2 ^ 32)) ∙ ap (λ (n : ℕ). n * (b / 2 ^ 32 * 2 ^ 32 + b % 2 ^ 32)) (split a) ∙ ap (λ (n : ℕ). a * n) (split b))

-- ---- an upper half is at most each factor
pub upper_le : (a y : ℕ) → a < 2 ^ 64 → a * y / 2 ^ 64 ≤ y
upper_le a y h = div-le_of_le-mul (2 ^ 64) (mul-le-mul_right y (le_of_lt h))

pub upper_le_left : (a y : ℕ) → y < 2 ^ 64 → a * y / 2 ^ 64 ≤ a
upper_le_left a y h = subst (λ (n : ℕ). n / 2 ^ 64 ≤ a) (mul_comm y a) (upper_le y a h)

pub sum_fits : (c u : ℕ) → c ≤ 2 ^ 62 → u ≤ 2 ^ 62 → Fits w64 (c + u)
sum_fits c u p q = omega arith
