-- Products of words: how far the upper half of a product stands from the product of the numbers that the words stand for. Every law is over variables:
-- a word A stands for the number S / W in units of 1 / P, to s of these units; Y for U / N in units of 1 / B. Assumes nothing.
use Rattle.std.specs.Prelude.{ℕ, ◌+◌, ◌*◌, ◌/◌, ◌<◌, ◌≤◌}
use Rattle.std.proofs.Common.{le_of_lt, mul-le-mul, mul-le-mul_right, le_of_mul-le-mul_right, div-mul-le_self, arith}
use Rattle.std.proofs.Math.Nat.{lt-div-mul-add}

-- A Y / B stands for (S / W) (U / N), where U / N is at most σ / ρ: the units that A lacks shrink with it, from s to g
module _ (A W S P Y N U B s g ρ σ : ℕ) (b : 0 < B) (r : 0 < ρ) (lo : A * W ≤ S * P + s * W) (hi : S * P ≤ (A + s) * W)
    (yl : Y * N ≤ U * B) (yh : U * B ≤ (Y + 3) * N) (ab : 3 * A ≤ B) (yb : ρ * (Y + 3) ≤ σ * B) (sg : σ * s ≤ ρ * g) where
  shrinks : s * U ≤ g * N
  shrinks = le_of_mul-le-mul_right (le_of_mul-le-mul_right (join (mul-le-mul_right (ρ * s) yh) (mul-le-mul_right (s * N) yb) (mul-le-mul_right (B * N) sg)) b) r
    where
      join : U * B * (ρ * s) ≤ (Y + 3) * N * (ρ * s) → ρ * (Y + 3) * (s * N) ≤ σ * B * (s * N) → σ * s * (B * N) ≤ ρ * g * (B * N) → s * U * ρ * B ≤ g * N * ρ * B
      join p q t = omega arith

  shrinks_word : s * (Y + 3) ≤ g * B
  shrinks_word = le_of_mul-le-mul_right (join (mul-le-mul_right s yb) (mul-le-mul_right B sg)) r
    where
      join : ρ * (Y + 3) * s ≤ σ * B * s → σ * s * B ≤ ρ * g * B → s * (Y + 3) * ρ ≤ g * B * ρ
      join p q = omega arith

  pub product_low : A * Y / B * (W * N) ≤ U * S * P + g * (W * N)
  product_low =
      le_of_mul-le-mul_right
      (join (A * Y / B) (mul-le-mul lo yl) (mul-le-mul_right (W * N) (div-mul-le_self (A * Y) B)) (mul-le-mul_right (W * B) shrinks)) b
    where
      join : (t : ℕ) → A * W * (Y * N) ≤ (S * P + s * W) * (U * B) → t * B * (W * N) ≤ A * Y * (W * N) → s * U * (W * B) ≤ g * N * (W * B) → t * (W * N) * B ≤ (U * S * P + g * (W * N)) * B
      join t p q u = omega arith

  pub product_high : U * S * P ≤ (A * Y / B + 2 + g) * (W * N)
  product_high =
      le_of_mul-le-mul_right
      (join (A * Y / B) (mul-le-mul hi yh) (mul-le-mul_right (W * N) (le_of_lt (lt-div-mul-add b))) (mul-le-mul_right (W * N) ab) (mul-le-mul_right (W * N) shrinks_word)) b
    where
      join : (t : ℕ) → S * P * (U * B) ≤ (A + s) * W * ((Y + 3) * N) → A * Y * (W * N) ≤ (t * B + B) * (W * N) → 3 * A * (W * N) ≤ B * (W * N) → s * (Y + 3) * (W * N) ≤ g * B * (W * N)
          → U * S * P * B ≤ (t + 2 + g) * (W * N) * B
      join t p q u v = omega arith

-- the square of F / G, from the word f of F / G, which lacks g units at most
pub square_low : (F G f Y B : ℕ) → 0 < B → f * G ≤ F * B → Y * B ≤ f * f → Y * (G * G) ≤ F * F * B
square_low F G f Y B b l d = le_of_mul-le-mul_right (join (mul-le-mul l l) (mul-le-mul_right (G * G) d)) b
  where
    join : f * G * (f * G) ≤ F * B * (F * B) → Y * B * (G * G) ≤ f * f * (G * G) → Y * (G * G) * B ≤ F * F * B * B
    join p q = omega arith

pub square_high : (F G f Y B g : ℕ) → 0 < B → F * B ≤ (f + g) * G → f * f ≤ Y * B + B → 2 * g * f + g * g ≤ 2 * B → F * F * B ≤ (Y + 3) * (G * G)
square_high F G f Y B g b h d w = le_of_mul-le-mul_right (join (mul-le-mul h h) (mul-le-mul_right (G * G) d) (mul-le-mul_right (G * G) w)) b
  where
    join : F * B * (F * B) ≤ (f + g) * G * ((f + g) * G) → f * f * (G * G) ≤ (Y * B + B) * (G * G) → (2 * g * f + g * g) * (G * G) ≤ 2 * B * (G * G) → F * F * B * B ≤ (Y + 3) * (G * G) * B
    join p q r = omega arith

-- F / G times the sum S / W, from their words
pub times_low : (F G f A o S W P B s : ℕ) → 0 < B → F ≤ G → f * G ≤ F * B → A * W ≤ S * P + s * W → o * B ≤ f * A → o * (W * G) ≤ F * S * P + s * (W * G)
times_low F G f A o S W P B s b u l c d = le_of_mul-le-mul_right (join (mul-le-mul l c) (mul-le-mul_right (W * G) d) (mul-le-mul_right (s * W * B) u)) b
  where
    join : f * G * (A * W) ≤ F * B * (S * P + s * W) → o * B * (W * G) ≤ f * A * (W * G) → F * (s * W * B) ≤ G * (s * W * B) → o * (W * G) * B ≤ (F * S * P + s * (W * G)) * B
    join p q r = omega arith

pub times_high : (F G f A o S W P B s g : ℕ) → 0 < B → F * B ≤ (f + g) * G → S * P ≤ (A + s) * W → f * A ≤ o * B + B → A ≤ B → f + g ≤ B → F * S * P ≤ (o + 1 + s + g) * (W * G)
times_high F G f A o S W P B s g b h c d ob fb = le_of_mul-le-mul_right (join (mul-le-mul h c) (mul-le-mul_right (W * G) d) (mul-le-mul_right (g * W * G) ob) (mul-le-mul_right (s * W * G) fb)) b
  where
    join : F * B * (S * P) ≤ (f + g) * G * ((A + s) * W) → f * A * (W * G) ≤ (o * B + B) * (W * G) → A * (g * W * G) ≤ B * (g * W * G) → (f + g) * (s * W * G) ≤ B * (s * W * G) → F * S * P * B ≤ (o + 1 + s + g) * (W * G) * B
    join p q r v = omega arith
