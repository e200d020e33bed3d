-- exp's answer keeps its bound, for every size n / d up to 709, and up to 708 below zero. Assumes nothing.
use Rattle.std.specs.Prelude.{◌≡◌, ℕ, ◌+◌, ◌-◌, ◌*◌, ◌/◌, ◌^◌, ◌<◌, ◌≤◌, Bool, true, false, cond, not, T, pos, refl, Float}
use Rattle.std.proofs.Common.{sym, ap, ◌∙◌, subst, true≢false, le_trans, le_of_lt, mul-le-mul, mul-le-mul_right, mul-pos, le_of_mul-le-mul_right, div-mul-le_self, div-lt_iff_lt-mul, mul_assoc, mul_comm, sub-add_cancel, lit<, lit≤, pow-add, pow_pos, ltb-false}
use Rattle.std.proofs.Math.Nat.{eq_of_mul-eq-mul_right, lt-div-mul-add, div-le_of_le-mul, le-add_right}
use native.Mathlib.Omega.{arith}
use Rattle.std.specs.Float.{nan, inf, fin}
use Rattle.std.specs.Float.Ieee.{unlike, lt, is_nan, up, down}
use Rattle.std.specs.Float.Ieee.Scale.{finite}
use Rattle.std.specs.Float.Ieee.Positive.{num, den, den_pos, positive, value→cross, positive_of_value}
use Rattle.num.specs.Floats.{sign}
use Rattle.functions.specs.Fraction.{Within, sum_of}
use Rattle.functions.specs.Reduction.{nearest_of, left_of, below_of, k_of, f_top, f_bottom, f_minus}
use Rattle.functions.specs.Words.{horner, upper, Room}
use Rattle.functions.specs.Exp.{ell, evens, odds, even_words, odd_words, fixed_exp, power_sum, over_power, exp_size, exp_finite, exp_of, highest, lowest, ExpRange}
use Rattle.functions.specs.Laws.Product.{square_low, square_high, times_low, times_high}
use Rattle.functions.specs.Laws.Horner.{Close, horner_small, horner_close, slack}
use Rattle.functions.specs.Laws.Packed.{Cut, cut, room_wide}
use Rattle.functions.specs.Laws.Closing.{Fixed, within_cut}
use Rattle.functions.specs.Laws.Reduced as reduced

-- L / 2 in units of 2 ^ -64
abbrev pub half : ℕ
half = 6393154322601327830

-- ---- how large the sum is, by the size of its words alone: what exp's own functions need
module _ (f : ℕ) (b : f ≤ half) where
  square : f * f / 2 ^ 64 ≤ 2 ^ 61 - 3
  square = div-le_of_le-mul (2 ^ 64) (le_trans (mul-le-mul b b) (lit≤ tt))

  pub square_small : upper f f ≤ 2 ^ 62
  square_small = le_trans square (lit≤ tt)

  eighth : 8 * (f * f / 2 ^ 64) ≤ 2 ^ 64
  eighth = go (f * f / 2 ^ 64) square
    where
      go : (y : ℕ) → y ≤ 2 ^ 61 - 3 → 8 * y ≤ 2 ^ 64
      go y p = omega arith

  even_most : horner even_words (upper f f) ≤ 2 ^ 62 + 2 ^ 60
  even_most = horner_small (f * f / 2 ^ 64) eighth even_words tt

  odd_most : horner odd_words (upper f f) ≤ 2 ^ 62 + 2 ^ 60
  odd_most = horner_small (f * f / 2 ^ 64) eighth odd_words tt

  -- the odd part is at most 0.4333 of 2 ^ 62
  odd_small : upper f (horner odd_words (upper f f)) ≤ 1997860725812914947
  odd_small = div-le_of_le-mul (2 ^ 64) (le_trans (mul-le-mul b odd_most) (lit≤ tt))

  even_least : 2 ^ 62 ≤ horner even_words (upper f f)
  unfolding horner
  even_least = le-add_right (2 ^ 62) _

  pub fits_minus : upper f (horner odd_words (upper f f)) ≤ horner even_words (upper f f)
  fits_minus = le_trans odd_small (le_trans (lit≤ tt) even_least)

  pub sum_of_word : (s : Bool) → (2 ^ 61 ≤ fixed_exp s f) × (fixed_exp s f + 2 ^ 9 < 2 ^ 63)
  unfolding fixed_exp
  sum_of_word true = go (horner even_words (upper f f)) (upper f (horner odd_words (upper f f))) even_least even_most odd_small
    where
      go : (e o : ℕ) → 2 ^ 62 ≤ e → e ≤ 2 ^ 62 + 2 ^ 60 → o ≤ 1997860725812914947 → (2 ^ 61 ≤ e - o) × (e - o + 2 ^ 9 < 2 ^ 63)
      go e o p q r = omega arith
  sum_of_word false = go (horner even_words (upper f f)) (upper f (horner odd_words (upper f f))) even_least even_most odd_small
    where
      go : (e o : ℕ) → 2 ^ 62 ≤ e → e ≤ 2 ^ 62 + 2 ^ 60 → o ≤ 1997860725812914947 → (2 ^ 61 ≤ e + o) × (e + o + 2 ^ 9 < 2 ^ 63)
      go e o p q r = omega arith

-- ---- the sum, at f = F / G and its word
module _ (F G f : ℕ) (l : f * G ≤ F * 2 ^ 64) (h : F * 2 ^ 64 ≤ (f + 1) * G) (b : f ≤ half) where
  yl : f * f / 2 ^ 64 * (G * G) ≤ F * F * 2 ^ 64
  yl = square_low F G f (f * f / 2 ^ 64) (2 ^ 64) (lit< tt) l (div-mul-le_self (f * f) (2 ^ 64))

  yh : F * F * 2 ^ 64 ≤ (f * f / 2 ^ 64 + 3) * (G * G)
  yh = square_high F G f (f * f / 2 ^ 64) (2 ^ 64) 1 (lit< tt) h (le_of_lt (lt-div-mul-add (lit< tt))) (twice f b)
    where
      twice : (n : ℕ) → n ≤ half → 2 * 1 * n + 1 * 1 ≤ 2 * 2 ^ 64
      twice n p = omega arith

  yb : 8 * (f * f / 2 ^ 64 + 3) ≤ 1 * 2 ^ 64
  yb = go (f * f / 2 ^ 64) (square f b)
    where
      go : (y : ℕ) → y ≤ 2 ^ 61 - 3 → 8 * (y + 3) ≤ 1 * 2 ^ 64
      go y p = omega arith

  under_one : F ≤ G
  under_one = le_of_mul-le-mul_right (le_trans h (subst (λ (n : ℕ). (f + 1) * G ≤ n) (mul_comm (2 ^ 64) G) (mul-le-mul_right G (go f b)))) (pow_pos 64)
    where
      go : (n : ℕ) → n ≤ half → n + 1 ≤ 2 ^ 64
      go n p = omega arith

  even_close : Close (horner even_words (upper f f)) (sum_of evens (F * F) (G * G)) (6227020800 * (G * G) ^ 6) 4
  unfolding slack
  even_close = horner_close 6227020800 (f * f / 2 ^ 64) (F * F) (G * G) yl yh 8 1 yb (lit≤ tt) _ _ _ _ tt tt

  odd_close : Close (horner odd_words (upper f f)) (sum_of odds (F * F) (G * G)) (6227020800 * (G * G) ^ 6) 4
  unfolding slack
  odd_close = horner_close 6227020800 (f * f / 2 ^ 64) (F * F) (G * G) yl yh 8 1 yb (lit≤ tt) _ _ _ _ tt tt

  odd_low : upper f (horner odd_words (upper f f)) * (6227020800 * (G * G) ^ 6 * G) ≤ F * sum_of odds (F * F) (G * G) * 2 ^ 62 + 4 * (6227020800 * (G * G) ^ 6 * G)
  odd_low =
      let O = horner odd_words (upper f f) in
      times_low F G f O (f * O / 2 ^ 64) (sum_of odds (F * F) (G * G)) (6227020800 * (G * G) ^ 6) (2 ^ 62) (2 ^ 64) 4 (lit< tt) under_one l odd_close.low (div-mul-le_self (f * O) (2 ^ 64))

  odd_high : F * sum_of odds (F * F) (G * G) * 2 ^ 62 ≤ (upper f (horner odd_words (upper f f)) + 1 + 4 + 1) * (6227020800 * (G * G) ^ 6 * G)
  odd_high =
      let O = horner odd_words (upper f f) in
      times_high F G f O (f * O / 2 ^ 64) (sum_of odds (F * F) (G * G)) (6227020800 * (G * G) ^ 6) (2 ^ 62) (2 ^ 64) 4 1 (lit< tt) h odd_close.high (le_of_lt (lt-div-mul-add (lit< tt)))
      (le_trans (odd_most f b) (lit≤ tt)) (go f b)
    where
      go : (n : ℕ) → n ≤ half → n + 1 ≤ 2 ^ 64
      go n p = omega arith

  sum_fixed : (s : Bool) → Fixed 62 10 (fixed_exp s f) (power_sum s F G)
  unfolding fixed_exp power_sum
  sum_fixed false =
      let W = 6227020800 * (G * G) ^ 6 in
      let E = horner even_words (upper f f) in
      let o = upper f (horner odd_words (upper f f)) in
      record {
        low = low_sum E o (sum_of evens (F * F) (G * G)) (F * sum_of odds (F * F) (G * G)) W (2 ^ 62) (mul-le-mul_right G even_close.low) odd_low;
        high = high_sum E o (sum_of evens (F * F) (G * G)) (F * sum_of odds (F * F) (G * G)) W (2 ^ 62) (mul-le-mul_right G even_close.high) odd_high;
      }
    where
      low_sum : (e o S R W P : ℕ) → e * W * G ≤ (S * P + 4 * W) * G → o * (W * G) ≤ R * P + 4 * (W * G) → (e + o) * (W * G) + 0 * P ≤ (G * S + R) * P + 10 * (W * G)
      low_sum e o S R W P p q = omega arith

      high_sum : (e o S R W P : ℕ) → S * P * G ≤ (e + 4) * W * G → R * P ≤ (o + 1 + 4 + 1) * (W * G) → (G * S + R) * P ≤ (e + o + 10) * (W * G) + 0 * P
      high_sum e o S R W P p q = omega arith
  sum_fixed true =
      let W = 6227020800 * (G * G) ^ 6 in
      let E = horner even_words (upper f f) in
      let o = upper f (horner odd_words (upper f f)) in
      record {
        low = low_sum E o (E - o) (sum_of evens (F * F) (G * G)) (F * sum_of odds (F * F) (G * G)) W (2 ^ 62) (sub-add_cancel (fits_minus f b)) (mul-le-mul_right G even_close.low) odd_high;
        high = high_sum E o (E - o) (sum_of evens (F * F) (G * G)) (F * sum_of odds (F * F) (G * G)) W (2 ^ 62) (sub-add_cancel (fits_minus f b)) (mul-le-mul_right G even_close.high) odd_low;
      }
    where
      low_sum : (e o p S R W P : ℕ) → p + o ≡ e → e * W * G ≤ (S * P + 4 * W) * G → R * P ≤ (o + 1 + 4 + 1) * (W * G) → p * (W * G) + R * P ≤ G * S * P + 10 * (W * G)
      low_sum e o p S R W P q r s = omega (arith, ap (λ (n : ℕ). n * (W * G)) q)

      high_sum : (e o p S R W P : ℕ) → p + o ≡ e → S * P * G ≤ (e + 4) * W * G → o * (W * G) ≤ R * P + 4 * (W * G) → G * S * P ≤ (p + 10) * (W * G) + R * P
      high_sum e o p S R W P q r s = omega (arith, ap (λ (n : ℕ). n * (W * G)) q)

-- ---- k
module _ (n d : ℕ) (dp : 0 < d) where
  ell_pos : 0 < 2 * (ell * d)
  ell_pos = omega arith

  pub k_up : n ≤ 709 * d → nearest_of ell n d ≤ 1023
  unfolding nearest_of
  k_up h = go ((2 * (n * 2 ^ 64) + ell * d) / (2 * (ell * d))) ((div-lt_iff_lt-mul ell_pos).1 (large n d dp h))
    where
      large : (n d : ℕ) → 0 < d → n ≤ 709 * d → 2 * (n * 2 ^ 64) + ell * d < 1024 * (2 * (ell * d))
      large n d p q = omega arith

      go : (k : ℕ) → k < 1024 → k ≤ 1023
      go k p = omega arith

  pub k_down : n ≤ 708 * d → nearest_of ell n d ≤ 1021
  unfolding nearest_of
  k_down h = go ((2 * (n * 2 ^ 64) + ell * d) / (2 * (ell * d))) ((div-lt_iff_lt-mul ell_pos).1 (large n d dp h))
    where
      large : (n d : ℕ) → 0 < d → n ≤ 708 * d → 2 * (n * 2 ^ 64) + ell * d < 1022 * (2 * (ell * d))
      large n d p q = omega arith

      go : (k : ℕ) → k < 1022 → k ≤ 1021
      go k p = omega arith

  modulus_pos : 0 < ell * d
  modulus_pos = omega arith

  pub f_small : left_of ell n d / d ≤ half
  f_small = reduced.word_small ell n d modulus_pos dp half (lit≤ tt)

  pub sum_room : (s : Bool) (b : ℕ) → 2 ≤ b → b ≤ 2046 → Room b (fixed_exp s (left_of ell n d / d))
  sum_room s b l h = let r = sum_of_word (left_of ell n d / d) f_small s in room_wide b (fixed_exp s (left_of ell n d / d)) l h r.0 r.1

  fixed : (s : Bool) → Fixed 62 10 (fixed_exp s (left_of ell n d / d)) (power_sum s (left_of ell n d) (2 ^ 64 * d))
  fixed s = sum_fixed (left_of ell n d) (2 ^ 64 * d) (left_of ell n d / d) (reduced.word_low ell n d modulus_pos dp) (reduced.word_high ell n d modulus_pos dp) f_small s

-- ---- the scale: 1085 is 62 and 1023
up_scale : (k v x z : ℕ) → x * 2 ^ 1085 ≡ v * 2 ^ (1023 + k) * z → x * 2 ^ 62 ≡ v * (z * 2 ^ k)
up_scale k v x z e =
    eq_of_mul-eq-mul_right (2 ^ 1023) (pow_pos 1023) (x * 2 ^ 62) (v * (z * 2 ^ k))
    (mul_assoc x (2 ^ 62) (2 ^ 1023) ∙ e ∙ ap (λ (n : ℕ). v * n * z) (pow-add 2 1023 k) ∙ swap v (2 ^ 1023) (2 ^ k) z)
  where
    swap : (a b c d : ℕ) → a * (b * c) * d ≡ a * (d * c) * b
    swap a b c d = omega arith

down_scale : (k v x z : ℕ) → k ≤ 1023 → x * 2 ^ 1085 ≡ v * 2 ^ (1023 - k) * z → x * 2 ^ k * 2 ^ 62 ≡ v * z
down_scale k v x z h e =
    eq_of_mul-eq-mul_right (2 ^ 1023) (pow_pos 1023) (x * 2 ^ k * 2 ^ 62) (v * z)
    (front x (2 ^ k) (2 ^ 62) (2 ^ 1023) ∙ ap (λ (n : ℕ). n * 2 ^ k) e ∙ back v (2 ^ (1023 - k)) z (2 ^ k)
    ∙ ap (λ (n : ℕ). v * z * n) (sym (pow-add 2 (1023 - k) k) ∙ ap (λ (n : ℕ). 2 ^ n) (sub-add_cancel h)))
  where
    front : (a b c d : ℕ) → a * b * c * d ≡ a * (c * d) * b
    front a b c d = omega arith

    back : (a b c d : ℕ) → a * b * c * d ≡ a * c * (b * d)
    back a b c d = omega arith

word_lt : (p : ℕ) → p + 2 ^ 9 < 2 ^ 63 → p < 2 ^ 64
word_lt p h = omega arith

-- ---- the bound at a size
abbrev field_of : Bool → ℕ → ℕ
field_of s k = cond s (1023 - k) (1023 + k)

abbrev word_of : Bool → ℕ → ℕ → ℕ
word_of s n d = fixed_exp (unlike s (below_of ell n d)) (left_of ell n d / d)

module _ (s : Bool) (n d : ℕ) (dp : 0 < d) (u : s ≡ false → n ≤ 709 * d) (l : s ≡ true → n ≤ 708 * d) where
  field_range : (2 ≤ field_of s (nearest_of ell n d)) × (field_of s (nearest_of ell n d) ≤ 2046)
  field_range = go s u l
    where
      go : (t : Bool) → (t ≡ false → n ≤ 709 * d) → (t ≡ true → n ≤ 708 * d) → (2 ≤ field_of t (nearest_of ell n d)) × (field_of t (nearest_of ell n d) ≤ 2046)
      go false p q = let k = k_up n d dp (p refl) in (omega arith, omega arith)
      go true p q = let k = k_down n d dp (q refl) in (omega arith, omega arith)

  size_cut : Cut (field_of s (nearest_of ell n d)) (word_of s n d) (exp_size s n d)
  unfolding exp_size
  size_cut =
      let t = unlike s (below_of ell n d) in
      let b = field_of s (nearest_of ell n d) in
      cut b (word_of s n d) (word_lt (word_of s n d) (sum_of_word (left_of ell n d / d) (f_small n d dp) t).1) (sum_room n d dp t b field_range.0 field_range.1)

  size_positive : T (positive (exp_size s n d))
  size_positive =
      let c = size_cut in
      positive_of_value (exp_size s n d) (c.v * 2 ^ field_of s (nearest_of ell n d)) (2 ^ 1085) c.value
      (mul-pos (some (word_of s n d) c.v (sum_of_word (left_of ell n d / d) (f_small n d dp) (unlike s (below_of ell n d))).0 c.high) (pow_pos (field_of s (nearest_of ell n d))))
    where
      some : (p v : ℕ) → 2 ^ 61 ≤ p → p ≤ v + 1024 → 0 < v
      some p v g h = omega arith

size_close : (s : Bool) (n d : ℕ) → 0 < d → (s ≡ false → n ≤ 709 * d) → (s ≡ true → n ≤ 708 * d)
    → Within 40 (over_power s (nearest_of ell n d) (exp_size s n d)) (power_sum (unlike s (below_of ell n d)) (left_of ell n d) (2 ^ 64 * d))
size_close false n d dp u l =
    let k = nearest_of ell n d in
    let t = unlike false (below_of ell n d) in
    let c = size_cut false n d dp u l in
    let r = exp_size false n d in
    within_cut 62 10 (word_of false n d) c.v (num r) (den r * 2 ^ k) (power_sum t (left_of ell n d) (2 ^ 64 * d)) (up_scale k c.v (num r) (den r) (value→cross r (c.v * 2 ^ (1023 + k)) (2 ^ 1085) c.value)) c.low c.high (fixed n d dp t) (lit≤ tt)
size_close true n d dp u l =
    let k = nearest_of ell n d in
    let kb = k_down n d dp (l refl) in
    let t = unlike true (below_of ell n d) in
    let c = size_cut true n d dp u l in
    let r = exp_size true n d in
    within_cut 62 10 (word_of true n d) c.v (num r * 2 ^ k) (den r) (power_sum t (left_of ell n d) (2 ^ 64 * d)) (down_scale k c.v (num r) (den r) (omega arith) (value→cross r (c.v * 2 ^ (1023 - k)) (2 ^ 1085) c.value)) c.low c.high (fixed n d dp t) (lit≤ tt)

-- ---- the range's ends, and the branch that it takes
finite_of : (x : Float) → T (not (is_nan x)) → lt highest x ≡ false → lt x lowest ≡ false → T (finite x)
unfolding is_nan lt
finite_of nan n g h = absurd n
finite_of (inf false) n g h = absurd (true≢false g)
finite_of (inf true) n g h = absurd (true≢false h)
finite_of (fin s m e) n g h = tt

most_of_lem : (x : Float) → T (finite x) → lt highest x ≡ false → sign x ≡ false → num x ≤ 709 * den x
unfolding lt
most_of_lem nan f g s = absurd f
most_of_lem (inf t) f g s = absurd f
most_of_lem (fin true m e) f g s = absurd (true≢false s)
most_of_lem (fin false m e) f g s = go (m * up e) (down e) (ltb-false (709 * down e) (m * up e * 1) g)
  where
    go : (a b : ℕ) → a * 1 ≤ 709 * b → a ≤ 709 * b
    go a b p = omega arith

least_of_lem : (x : Float) → T (finite x) → lt x lowest ≡ false → sign x ≡ true → num x ≤ 708 * den x
unfolding lt
least_of_lem nan f g s = absurd f
least_of_lem (inf t) f g s = absurd f
least_of_lem (fin false m e) f g s = absurd (true≢false (sym s))
least_of_lem (fin true m e) f g s = go (m * up e) (down e) (ltb-false (708 * down e) (m * up e * 1) g)
  where
    go : (a b : ℕ) → a * 1 ≤ 708 * b → a ≤ 708 * b
    go a b p = omega arith

pub is_finite : (x : Float) → ExpRange x → T (finite x)
is_finite x r = finite_of x r.number r.most r.least

pub up_to : (x : Float) → ExpRange x → sign x ≡ false → num x ≤ 709 * den x
up_to x r s = most_of_lem x (is_finite x r) r.most s

pub down_to : (x : Float) → ExpRange x → sign x ≡ true → num x ≤ 708 * den x
down_to x r s = least_of_lem x (is_finite x r) r.least s

at_finite : (x : Float) → T (finite x) → exp_finite x ≡ exp_size (sign x) (num x) (den x)
at_finite nan f = absurd f
at_finite (inf s) f = absurd f
at_finite (fin s m e) f = refl

pub in_range : (x : Float) → ExpRange x → exp_of x ≡ exp_size (sign x) (num x) (den x)
unfolding exp_of
in_range x r =
    ap (λ (t : Bool). cond t (inf false) (cond (lt x lowest) (fin false 0 (pos 0)) (exp_finite x))) r.most
    ∙ ap (λ (t : Bool). cond t (fin false 0 (pos 0)) (exp_finite x)) r.least
    ∙ at_finite x (is_finite x r)

pub close : (x : Float) → ExpRange x → T (positive (exp_of x)) × Within 40 (over_power (sign x) (k_of ell x) (exp_of x)) (power_sum (f_minus ell x) (f_top ell x) (f_bottom x))
close x r =
    subst (λ (y : Float). T (positive y) × Within 40 (over_power (sign x) (k_of ell x) y) (power_sum (f_minus ell x) (f_top ell x) (f_bottom x))) (sym (in_range x r))
    (size_positive (sign x) (num x) (den x) (den_pos x) (up_to x r) (down_to x r), size_close (sign x) (num x) (den x) (den_pos x) (up_to x r) (down_to x r))
