-- A quotient of 63 digits by three divisions of 21 digits each. Assumes nothing.
use Rattle.std.proofs.Common.{◌≡◌, ℕ, ◌+◌, ◌*◌, ◌/◌, ◌^◌, ◌<◌, sym, ap, ◌∙◌, arith, lit<}
use native.Mathlib.Nat.{mul-div-mul_right}
use lib.Arith.{digits_div}
use Rattle.functions.specs.Fraction.{apart}
use Rattle.functions.specs.Ln.{z_word}

pub joined : (s m k₁ l₁ k₂ l₂ k₃ l₃ : ℕ) → s * 2 ^ 21 ≡ k₁ * m + l₁ → l₁ * 2 ^ 21 ≡ k₂ * m + l₂ → l₂ * 2 ^ 21 ≡ k₃ * m + l₃ → s * 2 ^ 63 ≡ (k₁ * 2 ^ 42 + k₂ * 2 ^ 21 + k₃) * m + l₃
joined s m k₁ l₁ k₂ l₂ k₃ l₃ e f g = omega arith

-- z by its quotient: both sides of the division are 512 times as large
pub z_is : (q o a k l r : ℕ) → a ≡ apart q o → a * 512 * 2 ^ 63 ≡ k * ((q + o) * 512) + l → l < (q + o) * 512 → r ≡ 2 * k → r ≡ z_word q o
unfolding z_word
z_is q o a k l r e f g h =
    h ∙ ap (λ (n : ℕ). 2 * n)
    (sym (digits_div k g) ∙ ap (λ (n : ℕ). n / ((q + o) * 512)) (sym f ∙ swap a) ∙ mul-div-mul_right (a * 2 ^ 63) (q + o) (lit< tt) ∙ ap (λ (n : ℕ). n * 2 ^ 63 / (q + o)) e)
  where
    swap : (a : ℕ) → a * 512 * 2 ^ 63 ≡ a * 2 ^ 63 * 512
    swap a = omega arith
