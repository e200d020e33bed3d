-- The search for the fewest digits: nothing in it wraps, and its turns. Assumes nothing.
use mathlib.Core.Path.{◌≡◌, refl, sym, ap, ◌∙◌, subst}
use mathlib.Core.Bool.{Bool, true, false}
use Prim.Native.Nat.{ℕ, suc, ◌+◌, ◌-◌, ◌*◌, ◌/◌, ◌%◌, ◌^◌, ◌≤◌, ◌<◌}
use native.Mathlib.Nat.{mod-lt, div-le_self, div-mul-le_self, lt_of_le_of_lt, pow-le-pow_right, pow-suc, mul-div_cancel}
use native.Mathlib.Omega.{arith}
use borrow.Author.Tests.{ne_eqb}
use lib.Dec.{lit<}
use Rattle.decimal.specs.declared.shortest.Span.{Span}
use Rattle.decimal.specs.Shortest.{span_of, low_edge, candidate_of, number_of, unless_none}
use Rattle.decimal.specs.Laws.Units.{power_pos}
use Rattle.decimal.proofs.Units.{whole_few}

pub edge_few : (m : ℕ) (narrow : Bool) → m < 2 ^ 53 → low_edge m narrow < 2 ^ 56
edge_few m true h = omega arith
edge_few m false h = omega arith

pub span_few : (b m : ℕ) (narrow : Bool) → 0 < b → b < 2047 → 4 * m < 2 ^ 56 → (span_of b m narrow).whole < 2 ^ 63
unfolding span_of
span_few b m narrow h k few = whole_few b (4 * m) h k few

pub positive : (a w : ℕ) → 0 < a → a * 10 ≤ w → 0 < w
positive a w h k = omega arith

-- ---- multiples of t next to w

pub twice_rest : (w t : ℕ) → 0 < t → t < 2 ^ 60 → 2 * (w % t) < 2 ^ 64
twice_rest w t h k = go (w % t) (mod-lt w h)
  where
    go : (r : ℕ) → r < t → 2 * r < 2 ^ 64
    go r l = omega arith

pub next_few : (w t : ℕ) → w < 2 ^ 63 → w / t + 1 < 2 ^ 64
next_few w t h = go (w / t) (div-le_self w t)
  where
    go : (q : ℕ) → q ≤ w → q + 1 < 2 ^ 64
    go q l = omega arith

pub below_few : (w t : ℕ) → w < 2 ^ 63 → w / t * t < 2 ^ 64
below_few w t h = go (w / t * t) (div-mul-le_self w t)
  where
    go : (p : ℕ) → p ≤ w → p < 2 ^ 64
    go p l = omega arith

pub above_few : (w t : ℕ) → w < 2 ^ 63 → t < 2 ^ 60 → (w / t + 1) * t < 2 ^ 64
above_few w t h k = go (w / t) (div-mul-le_self w t)
  where
    go : (q : ℕ) → q * t ≤ w → (q + 1) * t < 2 ^ 64
    go q l = omega arith

-- ---- powers of ten

pub ten_pos : (t k : ℕ) → t ≡ 10 ^ k → 0 < t
ten_pos t k e = subst (λ (n : ℕ). 0 < n) (sym e) (power_pos 10 k (lit< tt))

pub ten_few : (t k : ℕ) → k ≤ 18 → t ≡ 10 ^ k → t < 2 ^ 60
ten_few t k h e = subst (λ (n : ℕ). n < 2 ^ 60) (sym e) (lt_of_le_of_lt (pow-le-pow_right {n = 10} (lit< tt) {i = k} {j = 18} h) (lit< {m = 10 ^ 18} tt))

back : (k : ℕ) → 0 < k → k ≡ suc (k - 1)
back k h = omega arith

pub ten_less : (t k : ℕ) → 0 < k → t ≡ 10 ^ k → t / 10 ≡ 10 ^ (k - 1)
ten_less t k h e = ap (λ (n : ℕ). n / 10) (e ∙ ap (λ (n : ℕ). 10 ^ n) (back k h) ∙ pow-suc 10 (k - 1)) ∙ mul-div_cancel (10 ^ (k - 1)) (lit< tt)

-- ---- a turn of the search

opened : (s : Span) (place j : ℕ) → number_of s place (suc j) ≡ unless_none (candidate_of s (10 ^ suc j)) (place + suc j) (number_of s place j)
unfolding number_of
opened s place j = refl

turn : (s : Span) (place k : ℕ) → 0 < k → number_of s place k ≡ unless_none (candidate_of s (10 ^ k)) (place + k) (number_of s place (k - 1))
turn s place k h = ap (λ (n : ℕ). number_of s place n) (back k h) ∙ opened s place (k - 1) ∙ ap (λ (n : ℕ). unless_none (candidate_of s (10 ^ n)) (place + n) (number_of s place (k - 1))) (sym (back k h))

pub number_found : (s : Span) (place k t d : ℕ) → 0 < k → t ≡ 10 ^ k → d ≡ candidate_of s t → (d ≡ 0 → ⊥) → number_of s place k ≡ record { digits = d; place = place + k }
number_found s place k t d h e f n = turn s place k h ∙ ap (λ (z : ℕ). unless_none z (place + k) (number_of s place (k - 1))) (sym (f ∙ ap (λ (z : ℕ). candidate_of s z) e)) ∙ rw (ne_eqb d 0 n) refl

pub number_next : (s : Span) (place k t d : ℕ) → 0 < k → t ≡ 10 ^ k → d ≡ candidate_of s t → d ≡ 0 → number_of s place k ≡ number_of s place (k - 1)
number_next s place k t d h e f z = turn s place k h ∙ ap (λ (n : ℕ). unless_none n (place + k) (number_of s place (k - 1))) (sym (f ∙ ap (λ (n : ℕ). candidate_of s n) e) ∙ z)
