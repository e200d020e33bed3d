-- A product of two floats' digits as two words, and a shifted pair of words as three. Assumes nothing.
use Rattle.std.proofs.Common.{◌≡◌, ℕ, ◌+◌, ◌-◌, ◌*◌, ◌/◌, ◌%◌, ◌^◌, ◌<◌, List, sym, ap, ◌∙◌, add-zero, mul-le-mul_right, mod-lt, div-lt_iff_lt-mul, arith, lit<, pow_pos, pow-add}
use native.Mathlib.Nat.{div-div-eq-div-mul, mul-div-mul_right, mod-add-div, mul-mod_left}
use Rattle.exact.specs.Limbs.{value}
use Rattle.exact.specs.Rows.{Carried}
use Rattle.exact.proofs.Carry.{next_weight}
use lib.Pow.{mod-pow-add, shl-shr}

-- ---- a word at a bit's place
pub high_word : (p s : ℕ) → s < 64 → p / 2 ^ (63 - s) / 2 ≡ p * 2 ^ s / 2 ^ 64
high_word p s h =
    div-div-eq-div-mul p (2 ^ (63 - s)) 2
    ∙ sym (mul-div-mul_right p (2 ^ (63 - s) * 2) (pow_pos s))
    ∙ ap (λ (n : ℕ). p * 2 ^ s / n) (swap (2 ^ (63 - s)) (2 ^ s) ∙ ap (λ (n : ℕ). 2 * n) (sym (pow-add 2 (63 - s) s) ∙ ap (λ (n : ℕ). 2 ^ n) (whole s h)))
  where
    swap : (a b : ℕ) → a * 2 * b ≡ 2 * (a * b)
    swap a b = omega arith

    whole : (a : ℕ) → a < 64 → 63 - a + a ≡ 63
    whole a p = omega arith

-- the word that two shifted words share holds both their parts
pub shared : (p q s : ℕ) → p < 2 ^ 64 → s < 64 → p * 2 ^ s / 2 ^ 64 + q * 2 ^ s % 2 ^ 64 < 2 ^ 64
shared p q s h g = go (2 ^ s) (2 ^ (64 - s)) (p * 2 ^ s / 2 ^ 64) (q % 2 ^ (64 - s)) _ (below p s h) (mod-lt q (pow_pos (64 - s))) rest whole
  where
    whole : 2 ^ (64 - s) * 2 ^ s ≡ 2 ^ 64
    whole = sym (pow-add 2 (64 - s) s) ∙ ap (λ (n : ℕ). 2 ^ n) (sum s g)
      where
        sum : (a : ℕ) → a < 64 → 64 - a + a ≡ 64
        sum a l = omega arith

    rest : q * 2 ^ s % 2 ^ 64 ≡ q % 2 ^ (64 - s) * 2 ^ s
    rest = ap (λ (n : ℕ). q * 2 ^ s % n) (sym whole ∙ sym (pow-add 2 (64 - s) s)) ∙ mod-pow-add (q * 2 ^ s) (64 - s) s ∙ (λ i. shl-shr q s i % 2 ^ (64 - s) * 2 ^ s + mul-mod_left q (2 ^ s) i) ∙ add-zero _

    below : (a b : ℕ) → a < 2 ^ 64 → a * 2 ^ b / 2 ^ 64 < 2 ^ b
    below a b l = (div-lt_iff_lt-mul (lit< tt)).1 (less a (2 ^ b) (pow_pos b) l)
      where
        less : (c P : ℕ) → 0 < P → c < 2 ^ 64 → c * P < P * 2 ^ 64
        less c P u v = omega (arith, mul-le-mul_right P v)

    go : (P Q u v w : ℕ) → u < P → v < Q → w ≡ v * P → Q * P ≡ 2 ^ 64 → u + w < 2 ^ 64
    go P Q u v w a b e f = omega (arith, mul-le-mul_right P b)

-- a pair of words shifted by a bit's place: three words from the place's limb on
pub laid : (n low high bit : ℕ) → low + 2 ^ 64 * high ≡ n
    → low * 2 ^ (bit % 64) % 2 ^ 64 * 2 ^ (64 * (bit / 64)) + (low * 2 ^ (bit % 64) / 2 ^ 64 + high * 2 ^ (bit % 64) % 2 ^ 64) * (2 ^ 64 * 2 ^ (64 * (bit / 64))) + high * 2 ^ (bit % 64) / 2 ^ 64 * (2 ^ 64 * (2 ^ 64 * 2 ^ (64 * (bit / 64)))) ≡ n * 2 ^ bit
laid n low high bit e =
    gather (low * 2 ^ (bit % 64) % 2 ^ 64) (low * 2 ^ (bit % 64) / 2 ^ 64) (high * 2 ^ (bit % 64) % 2 ^ 64) (high * 2 ^ (bit % 64) / 2 ^ 64) (2 ^ 64) (2 ^ (64 * (bit / 64)))
    ∙ (λ i. (mod-add-div (low * 2 ^ (bit % 64)) (2 ^ 64) i + 2 ^ 64 * mod-add-div (high * 2 ^ (bit % 64)) (2 ^ 64) i) * 2 ^ (64 * (bit / 64)))
    ∙ join low high (2 ^ 64) (2 ^ (bit % 64)) (2 ^ (64 * (bit / 64)))
    ∙ (λ i. e i * (sym (pow-add 2 (bit % 64) (64 * (bit / 64))) ∙ ap (λ (k : ℕ). 2 ^ k) (mod-add-div bit 64)) i)
  where
    gather : (a b c d W P : ℕ) → a * P + (b + c) * (W * P) + d * (W * (W * P)) ≡ (a + W * b + W * (c + W * d)) * P
    gather a b c d W P = omega arith

    join : (a b W S P : ℕ) → (a * S + W * (b * S)) * P ≡ (a + W * b) * (S * P)
    join a b W S P = omega arith

-- three limbs, each with a carry for the next: the shifted pair is added, but for the last carry
pub added_words : (l l₁ l₂ l₃ : List ℕ) (n low high bit w₀ w₁ w₂ c₀ c₁ c₂ : ℕ) → low + 2 ^ 64 * high ≡ n
    → w₀ ≡ low * 2 ^ (bit % 64) % 2 ^ 64 → w₁ ≡ low * 2 ^ (bit % 64) / 2 ^ 64 + high * 2 ^ (bit % 64) % 2 ^ 64 → w₂ ≡ high * 2 ^ (bit % 64) / 2 ^ 64
    → Carried l (bit / 64) (w₀ + 0) c₀ l₁ → Carried l₁ (bit / 64 + 1) (w₁ + c₀) c₁ l₂ → Carried l₂ (bit / 64 + 2) (w₂ + c₁) c₂ l₃
    → value l₃ + c₂ * 2 ^ (64 * (bit / 64 + 3)) ≡ value l + n * 2 ^ bit
added_words l l₁ l₂ l₃ n low high bit w₀ w₁ w₂ c₀ c₁ c₂ e f g h A B C =
    ap (λ (k : ℕ). value l₃ + c₂ * 2 ^ (64 * k)) (third (bit / 64))
    ∙ three (value l) (value l₁) (value l₂) (value l₃) w₀ w₁ w₂ c₀ c₁ c₂ (2 ^ (64 * (bit / 64))) (2 ^ 64 * 2 ^ (64 * (bit / 64))) (2 ^ 64 * (2 ^ 64 * 2 ^ (64 * (bit / 64)))) _ (rw one at A.sum) (rw (two, one) at B.sum) (rw two' at C.sum)
    ∙ ap (λ (k : ℕ). value l + k) ((λ i. f i * 2 ^ (64 * (bit / 64)) + g i * (2 ^ 64 * 2 ^ (64 * (bit / 64))) + h i * (2 ^ 64 * (2 ^ 64 * 2 ^ (64 * (bit / 64))))) ∙ laid n low high bit e)
  where
    one : 2 ^ (64 * (bit / 64 + 1)) ≡ 2 ^ 64 * 2 ^ (64 * (bit / 64))
    one = next_weight (bit / 64)

    two : 2 ^ (64 * (bit / 64 + 1 + 1)) ≡ 2 ^ 64 * (2 ^ 64 * 2 ^ (64 * (bit / 64)))
    two = next_weight (bit / 64 + 1) ∙ ap (λ (k : ℕ). 2 ^ 64 * k) one

    two' : 2 ^ (64 * (bit / 64 + 2)) ≡ 2 ^ 64 * (2 ^ 64 * 2 ^ (64 * (bit / 64)))
    two' = ap (λ (k : ℕ). 2 ^ (64 * k)) (second (bit / 64)) ∙ two
      where
        second : (k : ℕ) → k + 2 ≡ k + 1 + 1
        second k = omega arith

    third : (k : ℕ) → k + 3 ≡ k + 2 + 1
    third k = omega arith

    three : (v v₁ v₂ v₃ w₀ w₁ w₂ c₀ c₁ c₂ P₀ P₁ P₂ P₃ : ℕ)
        → v₁ + c₀ * P₁ ≡ v + (w₀ + 0) * P₀ → v₂ + c₁ * P₂ ≡ v₁ + (w₁ + c₀) * P₁ → v₃ + c₂ * P₃ ≡ v₂ + (w₂ + c₁) * P₂
        → v₃ + c₂ * P₃ ≡ v + (w₀ * P₀ + w₁ * P₁ + w₂ * P₂)
    three v v₁ v₂ v₃ w₀ w₁ w₂ c₀ c₁ c₂ P₀ P₁ P₂ P₃ a b c = omega arith
