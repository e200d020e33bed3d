-- ln's answer keeps its bound at every finite x above 0. Assumes nothing.
use Rattle.std.specs.Prelude.{◌≡◌, ℕ, zero, suc, ◌+◌, ◌-◌, ◌*◌, ◌/◌, ◌^◌, ◌<◌, ◌≤◌, Bool, true, false, cond, not, T, ltb, ◌==◌, from_bits, nat_lt, refl}
use Rattle.std.proofs.Common.{sym, ap, ◌∙◌, subst, true≢false, le_trans, le_of_lt, mul-le-mul, mul-le-mul_right, mul-lt-mul_of_pos_right, lt_of_mul-lt-mul_right, div-mul-le_self, mul_comm, mul_assoc, mul-pos, add-mul, sub-add_cancel, eqb→eq, ltb→lt, nltb→le, lit<, lit≤, pow-add, pow_pos, lt-ltb, le-ltb}
use Rattle.std.proofs.Math.Bool.{beq}
use Rattle.std.proofs.Math.Nat.{le_of_mul-le-mul_right, lt-div-mul-add, div-le_of_le-mul, mul-sub}
use native.Mathlib.Omega.{arith}
use Rattle.std.specs.Float.Ieee.{binary64}
use Rattle.std.specs.Float.Ieee.Positive.{num, den}
use Rattle.std.specs.Float.Ieee.Nearest.{div_mono}
use Rattle.functions.specs.Fraction.{Fraction, Within, FiniteWithin, added, negated, apart, sum_of}
use Rattle.functions.specs.Words.{horner, upper, packed}
use Rattle.functions.specs.Exp.{ell}
use Rattle.functions.specs.Ln.{ln_words, ln_word, z_word, one_of, ln_size, unit_of, minus_of, place_of, ln_answer, Digits, ln_terms, ln_series}
use Rattle.functions.specs.Laws.Product.{square_low, square_high, times_low, times_high}
use Rattle.functions.specs.Laws.Horner.{Close, horner_small, horner_close, slack}
use Rattle.functions.specs.Laws.Packed.{Cut, cut, room}
use Rattle.functions.specs.Laws.Closing.{Fixed, packed_within, within_negated, turned_within}

-- 1 / 5 in units of 2 ^ -64
abbrev pub fifth : ℕ
fifth = 3689348814741910324

-- ---- how large the sum is, by the size of its words alone
module _ (f : ℕ) (b : f ≤ fifth) where
  square : f * f / 2 ^ 64 ≤ 2 ^ 60 - 3
  square = div-le_of_le-mul (2 ^ 64) (le_trans (mul-le-mul b b) (lit≤ tt))

  pub square_small : upper f f ≤ 2 ^ 62
  square_small = le_trans square (lit≤ tt)

  sum_small : horner ln_words (upper f f) ≤ 2 ^ 62 + 2 ^ 60
  sum_small = horner_small (f * f / 2 ^ 64) (go (f * f / 2 ^ 64) square) ln_words tt
    where
      go : (y : ℕ) → y ≤ 2 ^ 60 - 3 → 8 * y ≤ 2 ^ 64
      go y p = omega arith

  series_small : ln_word f ≤ 2 ^ 60 + 1
  unfolding ln_word
  series_small = div-le_of_le-mul (2 ^ 64) (le_trans (mul-le-mul b sum_small) (lit≤ tt))

-- ---- the series, at z = F / G up to 1 / 5 and its word, which lacks 2 units at most
module _ (F G f : ℕ) (l : f * G ≤ F * 2 ^ 64) (h : F * 2 ^ 64 ≤ (f + 2) * G) (b : f ≤ fifth) where
  yb : 16 * (f * f / 2 ^ 64 + 3) ≤ 1 * 2 ^ 64
  yb = go (f * f / 2 ^ 64) (square f b)
    where
      go : (y : ℕ) → y ≤ 2 ^ 60 - 3 → 16 * (y + 3) ≤ 1 * 2 ^ 64
      go y p = omega arith

  yh : F * F * 2 ^ 64 ≤ (f * f / 2 ^ 64 + 3) * (G * G)
  yh = square_high F G f (f * f / 2 ^ 64) (2 ^ 64) 2 (lit< tt) h (le_of_lt (lt-div-mul-add (lit< tt))) (go f b)
    where
      go : (n : ℕ) → n ≤ fifth → 2 * 2 * n + 2 * 2 ≤ 2 * 2 ^ 64
      go n p = omega arith

  series_close : Close (horner ln_words (upper f f)) (sum_of ln_terms (F * F) (G * G)) (14549535 * (G * G) ^ 9) 131076
  unfolding slack
  series_close = horner_close 14549535 (f * f / 2 ^ 64) (F * F) (G * G) (square_low F G f (f * f / 2 ^ 64) (2 ^ 64) (lit< tt) l (div-mul-le_self (f * f) (2 ^ 64))) yh 16 (2 ^ 53) yb (lit≤ tt) _ _ _ _ tt tt

  short : f + 2 ≤ 2 ^ 64
  short = go f b
    where
      go : (n : ℕ) → n ≤ fifth → n + 2 ≤ 2 ^ 64
      go n p = omega arith

  under_one : F ≤ G
  under_one = le_of_mul-le-mul_right (le_trans h (subst (λ (n : ℕ). (f + 2) * G ≤ n) (mul_comm (2 ^ 64) G) (mul-le-mul_right G short))) (pow_pos 64)

  series_low : ln_word f * (14549535 * (G * G) ^ 9 * G) ≤ F * sum_of ln_terms (F * F) (G * G) * 2 ^ 62 + 131076 * (14549535 * (G * G) ^ 9 * G)
  unfolding ln_word
  series_low =
      let O = horner ln_words (upper f f) in
      times_low F G f O (f * O / 2 ^ 64) (sum_of ln_terms (F * F) (G * G)) (14549535 * (G * G) ^ 9) (2 ^ 62) (2 ^ 64) 131076 (lit< tt) under_one l series_close.low (div-mul-le_self (f * O) (2 ^ 64))

  series_high : F * sum_of ln_terms (F * F) (G * G) * 2 ^ 62 ≤ (ln_word f + 1 + 131076 + 2) * (14549535 * (G * G) ^ 9 * G)
  unfolding ln_word
  series_high =
      let O = horner ln_words (upper f f) in
      times_high F G f O (f * O / 2 ^ 64) (sum_of ln_terms (F * F) (G * G)) (14549535 * (G * G) ^ 9) (2 ^ 62) (2 ^ 64) 131076 2 (lit< tt) h series_close.high (le_of_lt (lt-div-mul-add (lit< tt)))
      (le_trans (sum_small f b) (lit≤ tt)) short

-- ---- from m = q / o to any a / b of the same size: z's word serves both
sub_mul : (x y z : ℕ) → x * z - y * z ≡ (x - y) * z
sub_mul x y z = ap (λ (n : ℕ). n - y * z) (mul_comm x z) ∙ ap (λ (n : ℕ). z * x - n) (mul_comm y z) ∙ sym (mul-sub z x y) ∙ mul_comm z (x - y)

spread : (x y z : ℕ) → apart (x * z) (y * z) ≡ apart x y * z
spread x y z = ap (λ (n : ℕ). n + (y * z - x * z)) (sub_mul x y z) ∙ ap (λ (n : ℕ). (x - y) * z + n) (sub_mul y x z) ∙ sym (add-mul (x - y) (y - x) z)

module _ (a b q o : ℕ) (op : 0 < o) (sp : 0 < q + o) (e : a * o ≡ q * b) where
  top : apart a b * o ≡ apart q o * b
  top = sym (spread a b o) ∙ ap (λ (n : ℕ). apart n (b * o)) e ∙ ap (λ (n : ℕ). apart (q * b) n) (mul_comm b o) ∙ spread q o b

  bottom : (a + b) * o ≡ (q + o) * b
  bottom = go e
    where
      go : a * o ≡ q * b → (a + b) * o ≡ (q + o) * b
      go p = omega arith

  word_low : z_word q o * (a + b) ≤ apart a b * 2 ^ 64
  unfolding z_word
  word_low =
      let K = apart q o * 2 ^ 63 / (q + o) in
      le_of_mul-le-mul_right (join K (apart q o) (apart a b) (a + b) (q + o) (mul-le-mul_right (2 * b) (div-mul-le_self (apart q o * 2 ^ 63) (q + o))) (ap (λ (n : ℕ). 2 * K * n) bottom) (ap (λ (n : ℕ). n * 2 ^ 64) top)) op
    where
      join : (K x F G s : ℕ) → K * s * (2 * b) ≤ x * 2 ^ 63 * (2 * b) → 2 * K * (G * o) ≡ 2 * K * (s * b) → F * o * 2 ^ 64 ≡ x * b * 2 ^ 64 → 2 * K * G * o ≤ F * 2 ^ 64 * o
      join K x F G s p r t = omega arith

  word_high : apart a b * 2 ^ 64 ≤ (z_word q o + 2) * (a + b)
  unfolding z_word
  word_high =
      let K = apart q o * 2 ^ 63 / (q + o) in
      le_of_mul-le-mul_right (join K (apart q o) (apart a b) (a + b) (q + o) (mul-le-mul_right (2 * b) (le_of_lt (lt-div-mul-add sp))) (ap (λ (n : ℕ). (2 * K + 2) * n) bottom) (ap (λ (n : ℕ). n * 2 ^ 64) top)) op
    where
      join : (K x F G s : ℕ) → x * 2 ^ 63 * (2 * b) ≤ (K * s + s) * (2 * b) → (2 * K + 2) * (G * o) ≡ (2 * K + 2) * (s * b) → F * o * 2 ^ 64 ≡ x * b * 2 ^ 64 → F * 2 ^ 64 * o ≤ (2 * K + 2) * G * o
      join K x F G s p r t = omega arith

-- ---- z's word
fifths : (h : Bool) (q : ℕ) → Digits h q → apart q (one_of h) * 5 ≤ q + one_of h
fifths false q r = omega arith
fifths true q r = omega arith

pub z_small : (h : Bool) (q : ℕ) → Digits h q → z_word q (one_of h) ≤ fifth
unfolding z_word
z_small h q r = go (apart q (one_of h) * 2 ^ 63 / (q + one_of h)) (div-le_of_le-mul (q + one_of h) (part (apart q (one_of h)) (q + one_of h) (fifths h q r)))
  where
    part : (x s : ℕ) → x * 5 ≤ s → x * 2 ^ 63 ≤ s * 1844674407370955162
    part x s p = omega arith

    go : (k : ℕ) → k ≤ 1844674407370955162 → 2 * k ≤ fifth
    go k p = omega arith

one_pos : (h : Bool) → 0 < one_of h
one_pos false = lit< tt
one_pos true = lit< tt

sum_pos : (h : Bool) (q : ℕ) → 0 < q + one_of h
sum_pos false q = omega arith
sum_pos true q = omega arith

pub word_small : (h : Bool) (q : ℕ) → Digits h q → ln_word (z_word q (one_of h)) ≤ 2 ^ 60 + 1
word_small h q r = series_small (z_word q (one_of h)) (z_small h q r)

-- ---- the size, in units of 1 / P: e L and the series, added or taken away. D P is 2 ^ 64, and E is D / 8
-- the size's fraction, for an e of size k and a series R / H
abbrev core : Bool → ℕ → ℕ → ℕ → Fraction
core true k R H = record { plus = k * ell * H + R * 2 ^ 64; minus = 0; den = 2 ^ 64 * H }
core false k R H = record { plus = k * ell * H; minus = R * 2 ^ 64; den = 2 ^ 64 * H }

module _ (k w R H D E P B s : ℕ) (dp : 0 < D) (ep : 0 < E) (db : D * P ≡ B) (de : 8 * E ≡ D) (sd : 2 * D + 8 * 131079 ≤ s * D)
    (lo : 8 * (w * H) ≤ R * B + 8 * (131079 * H)) (hi : R * B ≤ 8 * ((w + 131079) * H)) where
  ell_low : k * ell / D * D * H ≤ k * ell * H
  ell_low = mul-le-mul_right H (div-mul-le_self (k * ell) D)

  ell_high : k * ell * H ≤ (k * ell / D * D + D) * H
  ell_high = mul-le-mul_right H (le_of_lt (lt-div-mul-add dp))

  w_low : w / E * D * H ≤ 8 * (w * H)
  w_low = go (w / E) (mul-le-mul_right (8 * H) (div-mul-le_self w E)) (ap (λ (n : ℕ). w / E * n * H) de)
    where
      go : (y : ℕ) → y * E * (8 * H) ≤ w * (8 * H) → y * (8 * E) * H ≡ y * D * H → y * D * H ≤ 8 * (w * H)
      go y p e = omega arith

  w_high : 8 * (w * H) ≤ (w / E * D + D) * H
  w_high = go (w / E) (mul-le-mul_right (8 * H) (le_of_lt (lt-div-mul-add ep))) (ap (λ (n : ℕ). (w / E + 1) * n * H) de)
    where
      go : (y : ℕ) → w * (8 * H) ≤ (y * E + E) * (8 * H) → (y + 1) * (8 * E) * H ≡ (y + 1) * D * H → 8 * (w * H) ≤ (y * D + D) * H
      go y p e = omega arith

  room_low : 2 * D * H + 8 * (131079 * H) ≤ s * D * H
  room_low = go (mul-le-mul_right H sd)
    where
      go : (2 * D + 8 * 131079) * H ≤ s * D * H → 2 * D * H + 8 * (131079 * H) ≤ s * D * H
      go p = omega arith

  -- p D H is plus - minus, to s D H
  scale_low : (p plus minus : ℕ) → p * D * H + minus ≤ plus + s * D * H → p * (B * H) + minus * P ≤ plus * P + s * (B * H)
  scale_low p plus minus h = go (mul-le-mul_right P h) (ap (λ (n : ℕ). p * n * H) db) (ap (λ (n : ℕ). s * n * H) db)
    where
      go : (p * D * H + minus) * P ≤ (plus + s * D * H) * P → p * (D * P) * H ≡ p * B * H → s * (D * P) * H ≡ s * B * H → p * (B * H) + minus * P ≤ plus * P + s * (B * H)
      go x y z = omega arith

  scale_high : (p plus minus : ℕ) → plus ≤ (p + s) * D * H + minus → plus * P ≤ (p + s) * (B * H) + minus * P
  scale_high p plus minus h = go (mul-le-mul_right P h) (ap (λ (n : ℕ). (p + s) * n * H) db)
    where
      go : plus * P ≤ ((p + s) * D * H + minus) * P → (p + s) * (D * P) * H ≡ (p + s) * B * H → plus * P ≤ (p + s) * (B * H) + minus * P
      go x y = omega arith

  together_low : (k * ell / D + w / E) * (B * H) + 0 * P ≤ (k * ell * H + R * B) * P + s * (B * H)
  together_low = scale_low (k * ell / D + w / E) (k * ell * H + R * B) 0 (go (k * ell / D) (w / E) (k * ell * H) (R * B) ell_low w_low lo room_low)
    where
      go : (x y K r : ℕ) → x * D * H ≤ K → y * D * H ≤ 8 * (w * H) → 8 * (w * H) ≤ r + 8 * (131079 * H) → 2 * D * H + 8 * (131079 * H) ≤ s * D * H → (x + y) * D * H + 0 ≤ K + r + s * D * H
      go x y K r p q u v = omega arith

  together_high : (k * ell * H + R * B) * P ≤ (k * ell / D + w / E + s) * (B * H) + 0 * P
  together_high = scale_high (k * ell / D + w / E) (k * ell * H + R * B) 0 (go (k * ell / D) (w / E) (k * ell * H) (R * B) ell_high w_high hi room_low)
    where
      go : (x y K r : ℕ) → K ≤ (x * D + D) * H → 8 * (w * H) ≤ (y * D + D) * H → r ≤ 8 * ((w + 131079) * H) → 2 * D * H + 8 * (131079 * H) ≤ s * D * H → K + r ≤ (x + y + s) * D * H + 0
      go x y K r p q u v = omega arith

  module _ (g : w / E ≤ k * ell / D) where
    against_low : (k * ell / D - w / E) * (B * H) + R * B * P ≤ k * ell * H * P + s * (B * H)
    against_low = scale_low (k * ell / D - w / E) (k * ell * H) (R * B) (go (k * ell / D) (w / E) (k * ell / D - w / E) (k * ell * H) (R * B) ell_low w_high hi room_low (ap (λ (n : ℕ). n * D * H) (sub-add_cancel g)))
      where
        go : (x y m K r : ℕ) → x * D * H ≤ K → 8 * (w * H) ≤ (y * D + D) * H → r ≤ 8 * ((w + 131079) * H) → 2 * D * H + 8 * (131079 * H) ≤ s * D * H → (m + y) * D * H ≡ x * D * H → m * D * H + r ≤ K + s * D * H
        go x y m K r p q u v t = omega arith

    against_high : k * ell * H * P ≤ (k * ell / D - w / E + s) * (B * H) + R * B * P
    against_high = scale_high (k * ell / D - w / E) (k * ell * H) (R * B) (go (k * ell / D) (w / E) (k * ell / D - w / E) (k * ell * H) (R * B) ell_high w_low lo room_low (ap (λ (n : ℕ). n * D * H) (sub-add_cancel g)))
      where
        go : (x y m K r : ℕ) → K ≤ (x * D + D) * H → y * D * H ≤ 8 * (w * H) → 8 * (w * H) ≤ r + 8 * (131079 * H) → 2 * D * H + 8 * (131079 * H) ≤ s * D * H → (m + y) * D * H ≡ x * D * H → K ≤ (m + s) * D * H + r
        go x y m K r p q u v t = omega arith

-- a unit of 2 ^ -u, at which the size lacks s units at most
pub record Unit (t u s : ℕ) : Type 0 where
  pub whole : 2 ^ t * 2 ^ u ≡ 2 ^ 64
  pub eighth : 8 * 2 ^ (t - 3) ≡ 2 ^ t
  pub few : 2 * 2 ^ t + 8 * 131079 ≤ s * 2 ^ t
  pub less : (2 ^ 60 + 1) / 2 ^ (t - 3) ≤ ell / 2 ^ t
  pub enough : (s + 1024) * 2 ^ 40 ≤ 2 ^ u
  pub place : u + (1021 + t) ≡ 1085
  pub top : 1021 + t ≤ 2044

fine : Unit 4 60 (2 ^ 17)
fine = record { whole = refl; eighth = refl; few = lit≤ tt; less = lit≤ tt; enough = lit≤ tt; place = refl; top = lit≤ tt }

coarse : Unit 10 54 (2 ^ 12)
coarse = record { whole = refl; eighth = refl; few = lit≤ tt; less = lit≤ tt; enough = lit≤ tt; place = refl; top = lit≤ tt }

-- the series is less than L
taken : {t u s : ℕ} → Unit t u s → (k w : ℕ) → w ≤ 2 ^ 60 + 1 → 1 ≤ k → w / 2 ^ (t - 3) ≤ k * ell / 2 ^ t
taken {t} U k w wb h =
    le_trans (div_mono w (2 ^ (t - 3)) (2 ^ 60 + 1) (2 ^ (t - 3)) (pow_pos (t - 3)) (pow_pos (t - 3)) (mul-le-mul_right (2 ^ (t - 3)) wb))
    (le_trans U.less (div_mono ell (2 ^ t) (k * ell) (2 ^ t) (pow_pos t) (pow_pos t) (mul-le-mul_right (2 ^ t) (le_trans (lit≤ {m = ell} {n = 1 * ell} tt) (mul-le-mul_right ell h)))))

pub unit_taken : (k w : ℕ) → w ≤ 2 ^ 60 + 1 → 1 ≤ k → w / 2 ^ (unit_of k - 3) ≤ k * ell / 2 ^ unit_of k
unit_taken k w wb h = go (nat_lt k 12)
  where
    go : (b : Bool) → w / 2 ^ (cond b 4 10 - 3) ≤ k * ell / 2 ^ cond b 4 10
    go true = taken fine k w wb h
    go false = taken coarse k w wb h

module _ (k w R H : ℕ) (lo : 8 * (w * H) ≤ R * 2 ^ 64 + 8 * (131079 * H)) (hi : R * 2 ^ 64 ≤ 8 * ((w + 131079) * H)) (wb : w ≤ 2 ^ 60 + 1) {t u s : ℕ} (U : Unit t u s) where
  size_fixed : (a : Bool) → (a ≡ false → 1 ≤ k) → Fixed u s (ln_size t k w a) (core a k R H)
  unfolding ln_size
  size_fixed true g = record {
    low = together_low k w R H (2 ^ t) (2 ^ (t - 3)) (2 ^ u) (2 ^ 64) s (pow_pos t) (pow_pos (t - 3)) U.whole U.eighth U.few lo hi;
    high = together_high k w R H (2 ^ t) (2 ^ (t - 3)) (2 ^ u) (2 ^ 64) s (pow_pos t) (pow_pos (t - 3)) U.whole U.eighth U.few lo hi;
  }
  size_fixed false g = record {
    low = against_low k w R H (2 ^ t) (2 ^ (t - 3)) (2 ^ u) (2 ^ 64) s (pow_pos t) (pow_pos (t - 3)) U.whole U.eighth U.few lo hi (taken U k w wb (g refl));
    high = against_high k w R H (2 ^ t) (2 ^ (t - 3)) (2 ^ u) (2 ^ 64) s (pow_pos t) (pow_pos (t - 3)) U.whole U.eighth U.few lo hi (taken U k w wb (g refl));
  }

-- ---- the size is a word
pub fine_lt : (k w : ℕ) (a : Bool) → k < 12 → w ≤ 2 ^ 60 + 1 → ln_size 4 k w a < 2 ^ 64
unfolding ln_size
fine_lt k w true p q = go (k * ell) w (le_trans (mul-le-mul_right ell (up_to k p)) (lit≤ {m = 11 * ell} {n = 11 * ell} tt)) q
  where
    up_to : (n : ℕ) → n < 12 → n ≤ 11
    up_to n h = omega arith

    go : (x y : ℕ) → x ≤ 11 * ell → y ≤ 2 ^ 60 + 1 → x / 2 ^ 4 + y / 2 ^ 1 < 2 ^ 64
    go x y r s = omega arith
fine_lt k w false p q = go (k * ell) w (mul-le-mul_right ell (up_to k p))
  where
    up_to : (n : ℕ) → n < 12 → n ≤ 11
    up_to n h = omega arith

    go : (x y : ℕ) → x ≤ 11 * ell → x / 2 ^ 4 - y / 2 ^ 1 < 2 ^ 64
    go x y r = omega arith

pub coarse_lt : (k w : ℕ) (a : Bool) → k ≤ 1075 → w ≤ 2 ^ 60 + 1 → ln_size 10 k w a < 2 ^ 64
unfolding ln_size
coarse_lt k w true p q = go (k * ell) w (mul-le-mul_right ell p) q
  where
    go : (x y : ℕ) → x ≤ 1075 * ell → y ≤ 2 ^ 60 + 1 → x / 2 ^ 10 + y / 2 ^ 7 < 2 ^ 64
    go x y r s = omega arith
coarse_lt k w false p q = go (k * ell) w (mul-le-mul_right ell p)
  where
    go : (x y : ℕ) → x ≤ 1075 * ell → x / 2 ^ 10 - y / 2 ^ 7 < 2 ^ 64
    go x y r = omega arith

pub size_lt : (k w : ℕ) (a : Bool) → k ≤ 1075 → w ≤ 2 ^ 60 + 1 → ln_size (unit_of k) k w a < 2 ^ 64
size_lt k w a p q = go (nat_lt k 12) (ltb→lt k 12)
  where
    go : (b : Bool) → (T b → k < 12) → ln_size (cond b 4 10) k w a < 2 ^ 64
    go true y = fine_lt k w a (y tt) q
    go false y = coarse_lt k w a p q

-- ---- the float's size against the two parts
unit_cut : {t u s : ℕ} → Unit t u s → (p : ℕ) → p < 2 ^ 64 → Cut (1021 + t) p (from_bits binary64 (packed (1021 + t) p))
unit_cut {t} U p h = cut (1021 + t) p h (room (1021 + t) p (go t) U.top h)
  where
    go : (n : ℕ) → 64 ≤ 1021 + n
    go n = omega arith

module _ (k w R H : ℕ) (a : Bool) (lo : 8 * (w * H) ≤ R * 2 ^ 64 + 8 * (131079 * H)) (hi : R * 2 ^ 64 ≤ 8 * ((w + 131079) * H)) (g : a ≡ false → 1 ≤ k) (wb : w ≤ 2 ^ 60 + 1) where
  sized_at : {t u s : ℕ} → Unit t u s → ln_size t k w a < 2 ^ 64
      → Within 40 (record { plus = num (from_bits binary64 (packed (1021 + t) (ln_size t k w a))); minus = 0; den = den (from_bits binary64 (packed (1021 + t) (ln_size t k w a))) }) (core a k R H)
  sized_at {t} {u} {s} U h =
      packed_within u (1021 + t) s (ln_size t k w a) (core a k R H) U.place (unit_cut U (ln_size t k w a) h) (size_fixed k w R H lo hi wb U a g) U.enough

  -- at the unit that k takes
  sized : k ≤ 1075 → Within 40 (record { plus = num (from_bits binary64 (packed (1021 + unit_of k) (ln_size (unit_of k) k w a))); minus = 0; den = den (from_bits binary64 (packed (1021 + unit_of k) (ln_size (unit_of k) k w a))) }) (core a k R H)
  sized p = go (nat_lt k 12) (size_lt k w a p wb)
    where
      go : (b : Bool) → ln_size (cond b 4 10) k w a < 2 ^ 64
          → Within 40 (record { plus = num (from_bits binary64 (packed (1021 + cond b 4 10) (ln_size (cond b 4 10) k w a))); minus = 0; den = den (from_bits binary64 (packed (1021 + cond b 4 10) (ln_size (cond b 4 10) k w a))) }) (core a k R H)
      go true h = sized_at fine h
      go false h = sized_at coarse h

-- whichever the unit, the float has a value
has_value : (k w : ℕ) (a : Bool) → k ≤ 1075 → w ≤ 2 ^ 60 + 1 → Cut (1021 + unit_of k) (ln_size (unit_of k) k w a) (from_bits binary64 (packed (1021 + unit_of k) (ln_size (unit_of k) k w a)))
has_value k w a p q = go (nat_lt k 12) (size_lt k w a p q)
  where
    go : (b : Bool) → ln_size (cond b 4 10) k w a < 2 ^ 64 → Cut (1021 + cond b 4 10) (ln_size (cond b 4 10) k w a) (from_bits binary64 (packed (1021 + cond b 4 10) (ln_size (cond b 4 10) k w a)))
    go true h = unit_cut fine (ln_size 4 k w a) h
    go false h = unit_cut coarse (ln_size 10 k w a) h

-- ---- signs

-- the same number added on both sides of a difference
within_shift : (t : ℕ) (A B : Fraction) (s p m : ℕ) → p ≡ B.plus + s → m ≡ B.minus + s → Within t A B → Within t A (record { plus = p; minus = m; den = B.den })
within_shift t A B s p m e f w = record {
  above = over A.plus A.minus A.den B.plus B.minus B.den (2 ^ t) w.above (ap (λ (n : ℕ). n * (A.den * 2 ^ t)) e) (ap (λ (n : ℕ). n * (A.den * 2 ^ t)) f);
  below = under A.plus A.minus A.den B.plus B.minus B.den (2 ^ t) w.below (ap (λ (n : ℕ). n * (A.den * 2 ^ t)) e) (ap (λ (n : ℕ). n * (A.den * 2 ^ t)) f);
}
  where
    over : (a b c x y z q : ℕ) → (a * z + y * c) * q ≤ (x * c + b * z) * q + c * z → p * (c * q) ≡ (x + s) * (c * q) → m * (c * q) ≡ (y + s) * (c * q) → (a * z + m * c) * q ≤ (p * c + b * z) * q + c * z
    over a b c x y z q g h k = omega arith

    under : (a b c x y z q : ℕ) → (x * c + b * z) * q ≤ (a * z + y * c) * q + c * z → p * (c * q) ≡ (x + s) * (c * q) → m * (c * q) ≡ (y + s) * (c * q) → (p * c + b * z) * q ≤ (a * z + m * c) * q + c * z
    under a b c x y z q g h k = omega arith

-- e L and the series, e being u - v
abbrev goal : ℕ → ℕ → Bool → ℕ → ℕ → Fraction
goal u v h R H = added (record { plus = u * ell; minus = v * ell; den = 2 ^ 64 }) (negated h (record { plus = R; minus = 0; den = H }))

longer : (u v k l H r : ℕ) → u ≡ v + k → u * l * H + r ≡ k * l * H + r + v * l * H
longer u v k l H r e = omega (arith, ap (λ (n : ℕ). n * (l * H)) e)

longer_alone : (u v k l H b : ℕ) → u ≡ v + k → u * l * H + 0 * b ≡ k * l * H + v * l * H
longer_alone u v k l H b e = omega (arith, ap (λ (n : ℕ). n * (l * H)) e)

alone : (x b : ℕ) → x + 0 * b ≡ 0 + x
alone x b = omega arith

turned : (x r : ℕ) → x + r ≡ r + x
turned x r = omega arith

aim : (s h : Bool) (u v k R H : ℕ) (A : Fraction) → (s ≡ false → u ≡ v + k) → (s ≡ true → v ≡ u + k) → Within 40 A (core (beq s h) k R H) → Within 40 (negated s A) (goal u v h R H)
aim false false u v k R H A f g w = within_shift 40 A (core true k R H) (v * ell * H) (u * ell * H + R * 2 ^ 64) (v * ell * H + 0 * 2 ^ 64) (longer u v k ell H (R * 2 ^ 64) (f refl)) (alone (v * ell * H) (2 ^ 64)) w
aim false true u v k R H A f g w = within_shift 40 A (core false k R H) (v * ell * H) (u * ell * H + 0 * 2 ^ 64) (v * ell * H + R * 2 ^ 64) (longer_alone u v k ell H (2 ^ 64) (f refl)) (turned (v * ell * H) (R * 2 ^ 64)) w
aim true true u v k R H A f g w =
    within_shift 40 (negated true A) (negated true (core true k R H)) (u * ell * H) (u * ell * H + 0 * 2 ^ 64) (v * ell * H + R * 2 ^ 64) (alone (u * ell * H) (2 ^ 64)) (longer v u k ell H (R * 2 ^ 64) (g refl)) (within_negated true 40 A (core true k R H) w)
aim true false u v k R H A f g w =
    within_shift 40 (negated true A) (negated true (core false k R H)) (u * ell * H) (u * ell * H + R * 2 ^ 64) (v * ell * H + 0 * 2 ^ 64) (turned (u * ell * H) (R * 2 ^ 64)) (longer_alone v u k ell H (2 ^ 64) (g refl)) (within_negated true 40 A (core false k R H) w)

-- e's size and sign
signs : (p : ℕ) (h s t : Bool) → (T s → apart p 1075 ≡ 0) → (T t → p < 1075) → (T (not t) → 1075 ≤ p)
    → (cond s h t ≡ false → p ≡ 1075 + apart p 1075) × (cond s h t ≡ true → 1075 ≡ p + apart p 1075)
signs p h true t z l g = (λ x. let k = z tt in omega arith, λ x. let k = z tt in omega arith)
signs p h false true z l g = (λ x. absurd (true≢false x), λ x. let k = l tt in omega arith)
signs p h false false z l g = (λ x. let k = g tt in omega arith, λ x. absurd (true≢false (sym x)))

-- where the signs differ there is an e
some_e : (k : ℕ) (h s t : Bool) → (T (not s) → 1 ≤ k) → beq (cond s h t) h ≡ false → 1 ≤ k
some_e k true true t g x = absurd (true≢false x)
some_e k false true t g x = absurd (true≢false x)
some_e k h false t g x = g tt

nonzero : (x : ℕ) → T (not (x == 0)) → 1 ≤ x
nonzero zero y = absurd y
nonzero (suc x) y = omega arith

pub k_some : (p : ℕ) (h : Bool) → beq (minus_of p h) h ≡ false → 1 ≤ apart p 1075
k_some p h x = some_e (apart p 1075) h (apart p 1075 == 0) (nat_lt p 1075) (nonzero (apart p 1075)) x

pub k_small : (c : ℕ) (h : Bool) → c ≤ 2098 → apart (place_of c h) 1075 ≤ 1075
k_small c false p = omega arith
k_small c true p = omega arith

-- ---- m, as a / b and as q / o
module _ (a b q o : ℕ) (e : a * o ≡ q * b) where
  m_least : 3 * o ≤ 4 * q → 0 < o → 3 * b ≤ 4 * a
  m_least h p = le_of_mul-le-mul_right (go (mul-le-mul_right b h)) p
    where
      go : 3 * o * b ≤ 4 * q * b → 3 * b * o ≤ 4 * a * o
      go x = omega arith

  m_below : 2 * q < 3 * o → 0 < b → 2 * a < 3 * b
  m_below h p = lt_of_mul-lt-mul_right o (go (mul-lt-mul_of_pos_right h p))
    where
      go : 2 * q * b < 3 * o * b → 2 * a * o < 3 * b * o
      go x = omega arith

  m_from_one : o ≤ q → 0 < o → b ≤ a
  m_from_one h p = le_of_mul-le-mul_right (go (mul-le-mul_right b h)) p
    where
      go : o * b ≤ q * b → b * o ≤ a * o
      go x = omega arith

  m_under_one : q < o → 0 < b → a < b
  m_under_one h p = lt_of_mul-lt-mul_right o (go (mul-lt-mul_of_pos_right h p))
    where
      go : q * b < o * b → a * o < b * o
      go x = omega arith

digits_least : (h : Bool) (q : ℕ) → Digits h q → 3 * one_of h ≤ 4 * q
digits_least false q s = omega arith
digits_least true q s = omega arith

digits_below : (h : Bool) (q : ℕ) → Digits h q → 2 * q < 3 * one_of h
digits_below false q s = omega arith
digits_below true q s = omega arith

-- ---- the bound, at n / d = q * 2 ^ (c - 1127)
module _ (n d c q : ℕ) (h : Bool) (dp : 0 < d) (e : n * 2 ^ 1127 ≡ q * 2 ^ c * d) (r : Digits h q) (cb : c ≤ 2098) where
  abbrev a : ℕ
  a = n * 2 ^ 1075

  abbrev b : ℕ
  b = d * 2 ^ place_of c h

  -- m is q / one_of h
  cross : a * one_of h ≡ q * b
  cross = go h
    where
      swap : (x y z : ℕ) → x * y * z ≡ x * (z * y)
      swap x y z = omega arith

      twice : (x y z : ℕ) → x * y * z * 2 ≡ x * (z * (y * 2))
      twice x y z = omega arith

      go : (t : Bool) → n * 2 ^ 1075 * one_of t ≡ q * (d * 2 ^ place_of c t)
      go false = mul_assoc n (2 ^ 1075) (2 ^ 52) ∙ e ∙ swap q (2 ^ c) d
      go true = mul_assoc n (2 ^ 1075) (2 ^ 53) ∙ sym (mul_assoc n (2 ^ 1127) 2) ∙ ap (λ (x : ℕ). x * 2) e ∙ twice q (2 ^ c) d ∙ ap (λ (x : ℕ). q * (d * x)) (sym (pow-add 2 c 1))

  b_pos : 0 < b
  b_pos = mul-pos dp (pow_pos (place_of c h))

  pub least : 3 * b ≤ 4 * a
  least = m_least a b q (one_of h) cross (digits_least h q r) (one_pos h)

  pub below : 2 * a < 3 * b
  below = m_below a b q (one_of h) cross (digits_below h q r) b_pos

  -- m is below 1 where h says so
  side : ltb a b ≡ h
  side = go h r cross
    where
      go : (t : Bool) → Digits t q → a * one_of t ≡ q * b → nat_lt a b ≡ t
      go false s x = le-ltb a b (m_from_one a b q (2 ^ 52) x s.0 (pow_pos 52))
      go true s x = lt-ltb a b (m_under_one a b q (2 ^ 53) x s.1 b_pos)

  abbrev F : ℕ
  F = apart a b

  abbrev G : ℕ
  G = a + b

  abbrev H : ℕ
  H = 14549535 * (G * G) ^ 9 * G

  abbrev R : ℕ
  R = 2 * (F * sum_of ln_terms (F * F) (G * G))

  abbrev w : ℕ
  w = ln_word (z_word q (one_of h))

  zl : z_word q (one_of h) * G ≤ F * 2 ^ 64
  zl = word_low a b q (one_of h) (one_pos h) (sum_pos h q) cross

  zh : F * 2 ^ 64 ≤ (z_word q (one_of h) + 2) * G
  zh = word_high a b q (one_of h) (one_pos h) (sum_pos h q) cross

  low8 : 8 * (w * H) ≤ R * 2 ^ 64 + 8 * (131079 * H)
  low8 = go (F * sum_of ln_terms (F * F) (G * G)) (w * H) H (series_low F G (z_word q (one_of h)) zl zh (z_small h q r))
    where
      go : (x y z : ℕ) → y ≤ x * 2 ^ 62 + 131076 * z → 8 * y ≤ 2 * x * 2 ^ 64 + 8 * (131079 * z)
      go x y z p = omega arith

  high8 : R * 2 ^ 64 ≤ 8 * ((w + 131079) * H)
  high8 = go (F * sum_of ln_terms (F * F) (G * G)) w H (series_high F G (z_word q (one_of h)) zl zh (z_small h q r))
    where
      go : (x y z : ℕ) → x * 2 ^ 62 ≤ (y + 1 + 131076 + 2) * z → 2 * x * 2 ^ 64 ≤ 8 * ((y + 131079) * z)
      go x y z p = omega arith

  pub close : FiniteWithin 40 (ln_answer c q h) (added (record { plus = place_of c h * ell; minus = 1075 * ell; den = 2 ^ 64 }) (ln_series a b))
  unfolding ln_answer ln_series
  close =
      let p = place_of c h in
      let k = apart p 1075 in
      let mn = minus_of p h in
      let same = beq mn h in
      let A = from_bits binary64 (packed (1021 + unit_of k) (ln_size (unit_of k) k w same)) in
      let z = signs p h (k == 0) (nat_lt p 1075) (eqb→eq k 0) (ltb→lt p 1075) (nltb→le p 1075) in
      let v = has_value k w same (k_small c h cb) (word_small h q r) in
      turned_within 40 A mn (v.v * 2 ^ (1021 + unit_of k)) (2 ^ 1085) (added (record { plus = p * ell; minus = 1075 * ell; den = 2 ^ 64 }) (ln_series a b)) v.value
      (subst (λ (x : Bool). Within 40 (negated mn (record { plus = num A; minus = 0; den = den A })) (goal p 1075 x R H)) (sym side)
      (aim mn h p 1075 k R H (record { plus = num A; minus = 0; den = den A }) z.0 z.1
      (sized k w R H same low8 high8 (k_some p h) (word_small h q r) (k_small c h cb))))
