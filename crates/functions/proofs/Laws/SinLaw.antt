-- sin's answer keeps its bound at every finite x. Assumes nothing.
use Rattle.std.specs.Prelude.{◌≡◌, ℕ, zero, suc, ◌+◌, ◌-◌, ◌*◌, ◌/◌, ◌%◌, ◌^◌, ◌<◌, ◌≤◌, Bool, true, false, cond, not, T, ◌==◌, from_bits, nat_eq, nat_le, nat_lt, refl, Option, Some, None, Float}
use Rattle.std.proofs.Common.{sym, ◌∙◌, le_trans, le_of_lt, mul-le-mul, mul-le-mul_right, le_of_mul-le-mul_right, div-mul-le_self, div-lt_iff_lt-mul, lt_of_lt_of_le, lt_of_le_of_lt, lt_of_mul-lt-mul_right, mul_assoc, mul_comm, mod-lt, ltb→lt, leb→le, lit<, lit≤, pow-add, pow_pos, pow_mono, le-leb}
use Rattle.std.proofs.Math.Path.{ap, subst}
use Rattle.std.proofs.Math.Nat.{lt-div-mul-add, div-le_of_le-mul, div-eq_of_lt}
use native.Mathlib.Omega.{arith}
use Rattle.std.proofs.Math.Dec.{nleb→lt}
use Rattle.std.specs.Float.{nan, inf, fin}
use Rattle.std.specs.Float.Ieee.{binary64, unlike, neg, up, down, size}
use Rattle.std.specs.Float.Ieee.Scale.{finite}
use Rattle.std.specs.Float.Ieee.Digits.{size-lt, size-le}
use Rattle.std.specs.Float.Ieee.Positive.{num, den, den_pos}
use Rattle.num.specs.Floats.{sign}
use Rattle.functions.specs.Fraction.{Fraction, Within, FiniteWithin, sum_of, kept, alternating, negated}
use Rattle.functions.specs.Reduction.{left_of, below_of, k_of, f_top, f_bottom, f_minus}
use Rattle.functions.specs.Words.{falling, upper, packed}
use Rattle.functions.specs.Sin.{quarter, sine_words, cosine_words, sine_word, cosine_word, wave_word, wave_side, small_size, sin_small, sin_large, sin_near, sin_of, sine_refusal, number_of, SinRange, sine_terms, cosine_terms, sine_sum, cosine_sum, quadrant, wave}
use Rattle.functions.specs.Laws.Product.{square_low, square_high, times_low, times_high}
use Rattle.functions.specs.Laws.Horner.{Near, falling_near}
use Rattle.functions.specs.Laws.Packed.{Cut, cut, room}
use Rattle.functions.specs.Laws.Closing.{Fixed, within, packed_within, within_negated, turned_within}
use Rattle.functions.specs.Laws.Fields.{quarter_below}
use Rattle.functions.specs.Laws.Reduced as reduced

-- Q / 2 in units of 2 ^ -64
abbrev half : ℕ
half = 14488038916154245684

-- ---- the sums, at f = F / G and its word
module _ (F G f : ℕ) (l : f * G ≤ F * 2 ^ 64) (h : F * 2 ^ 64 ≤ (f + 1) * G) (b : f ≤ half) where
  square_most : f * f / 2 ^ 64 ≤ 11529215046068469757
  square_most = div-le_of_le-mul (2 ^ 64) (le_trans (mul-le-mul b b) (lit≤ tt))

  yl : f * f / 2 ^ 64 * (G * G) ≤ F * F * 2 ^ 64
  yl = square_low F G f (f * f / 2 ^ 64) (2 ^ 64) (lit< tt) l (div-mul-le_self (f * f) (2 ^ 64))

  yh : F * F * 2 ^ 64 ≤ (f * f / 2 ^ 64 + 3) * (G * G)
  yh = square_high F G f (f * f / 2 ^ 64) (2 ^ 64) 1 (lit< tt) h (le_of_lt (lt-div-mul-add (lit< tt))) (twice f b)
    where
      twice : (n : ℕ) → n ≤ half → 2 * 1 * n + 1 * 1 ≤ 2 * 2 ^ 64
      twice n p = omega arith

  yb : 8 * (f * f / 2 ^ 64 + 3) ≤ 5 * 2 ^ 64
  yb = go (f * f / 2 ^ 64) square_most
    where
      go : (y : ℕ) → y ≤ 11529215046068469757 → 8 * (y + 3) ≤ 5 * 2 ^ 64
      go y p = omega arith

  short : f + 1 ≤ 2 ^ 64
  short = go f b
    where
      go : (n : ℕ) → n ≤ half → n + 1 ≤ 2 ^ 64
      go n p = omega arith

  under_one : F ≤ G
  under_one = le_of_mul-le-mul_right (le_trans h (subst (λ (n : ℕ). (f + 1) * G ≤ n) (mul_comm (2 ^ 64) G) (mul-le-mul_right G short))) (pow_pos 64)

  sine_near : Near (falling sine_words (upper f f)) (sum_of (kept true sine_terms) (F * F) (G * G)) (sum_of (kept false sine_terms) (F * F) (G * G)) (355687428096000 * (G * G) ^ 8) (2 ^ 62)
  sine_near = falling_near 355687428096000 (f * f / 2 ^ 64) (F * F) (G * G) yl yh yb (le_trans square_most (lit≤ tt)) _ _ _ _ tt tt

  cosine_near : Near (falling cosine_words (upper f f)) (sum_of (kept true cosine_terms) (F * F) (G * G)) (sum_of (kept false cosine_terms) (F * F) (G * G)) (20922789888000 * (G * G) ^ 8) (2 ^ 62)
  cosine_near = falling_near 20922789888000 (f * f / 2 ^ 64) (F * F) (G * G) yl yh yb (le_trans square_most (lit≤ tt)) _ _ _ _ tt tt

  sine_fixed : Fixed 62 10 (sine_word f) (sine_sum false F G)
  unfolding sine_word alternating
  sine_fixed =
      let A = falling sine_words (upper f f) in
      let k = sine_near in
      let W = 355687428096000 * (G * G) ^ 8 in
      let p = sum_of (kept true sine_terms) (F * F) (G * G) in
      let m = sum_of (kept false sine_terms) (F * F) (G * G) in
      let o = f * A / 2 ^ 64 in
      record {
        low = down o W p m k.sum (2 ^ 62) k.split (times_low F G f A o k.sum W (2 ^ 62) (2 ^ 64) 8 (lit< tt) under_one l k.low (div-mul-le_self (f * A) (2 ^ 64)));
        high = rise o W p m k.sum (2 ^ 62) k.split (times_high F G f A o k.sum W (2 ^ 62) (2 ^ 64) 8 1 (lit< tt) h k.high (le_of_lt (lt-div-mul-add (lit< tt))) (le_trans k.small (lit≤ tt)) short);
      }
    where
      down : (o W p m S P : ℕ) → p ≡ m + S → o * (W * G) ≤ F * S * P + 8 * (W * G) → o * (W * G) + F * m * P ≤ F * p * P + 10 * (W * G)
      down o W p m S P e q = omega (arith, ap (λ (n : ℕ). F * n * P) e)

      rise : (o W p m S P : ℕ) → p ≡ m + S → F * S * P ≤ (o + 1 + 8 + 1) * (W * G) → F * p * P ≤ (o + 10) * (W * G) + F * m * P
      rise o W p m S P e q = omega (arith, ap (λ (n : ℕ). F * n * P) e)

  cosine_fixed : Fixed 62 10 (cosine_word f) (cosine_sum F G)
  unfolding cosine_word alternating
  cosine_fixed =
      let A = falling cosine_words (upper f f) in
      let k = cosine_near in
      let W = 20922789888000 * (G * G) ^ 8 in
      let p = sum_of (kept true cosine_terms) (F * F) (G * G) in
      let m = sum_of (kept false cosine_terms) (F * F) (G * G) in
      record { low = down A W p m k.sum (2 ^ 62) k.split k.low; high = rise A W p m k.sum (2 ^ 62) k.split k.high }
    where
      down : (A W p m S P : ℕ) → p ≡ m + S → A * W ≤ S * P + 8 * W → A * (W * 1) + 1 * m * P ≤ 1 * p * P + 10 * (W * 1)
      down A W p m S P e q = omega (arith, ap (λ (n : ℕ). n * P) e)

      rise : (A W p m S P : ℕ) → p ≡ m + S → S * P ≤ (A + 8) * W → 1 * p * P ≤ (A + 10) * (W * 1) + 1 * m * P
      rise A W p m S P e q = omega (arith, ap (λ (n : ℕ). n * P) e)

  wave_fixed : (t : Bool) → Fixed 62 10 (cond t (sine_word f) (cosine_word f)) (cond t (sine_sum false F G) (cosine_sum F G))
  wave_fixed true = sine_fixed
  wave_fixed false = cosine_fixed

-- a sine or a cosine is at most 1
pub word_most : (f : ℕ) → f < 2 ^ 64 → (t : Bool) → cond t (sine_word f) (cosine_word f) ≤ 2 ^ 62
unfolding sine_word cosine_word falling
word_most f h true = div-le_of_le-mul (2 ^ 64) (mul-le-mul {n₂ = 2 ^ 64} (le_of_lt h) (go _))
  where
    go : (n : ℕ) → 2 ^ 62 - n ≤ 2 ^ 62
    go n = omega arith
word_most f h false = go _
  where
    go : (n : ℕ) → 2 ^ 62 - n ≤ 2 ^ 62
    go n = omega arith

-- ---- the bound
module _ (n d : ℕ) (dp : 0 < d) where
  modulus_pos : 0 < quarter * d
  modulus_pos = omega arith

  pub f_small : left_of quarter n d / d ≤ half
  f_small = reduced.word_small quarter n d modulus_pos dp half (lit≤ tt)

  f_word : left_of quarter n d / d < 2 ^ 64
  f_word = go (left_of quarter n d / d) f_small
    where
      go : (f : ℕ) → f ≤ half → f < 2 ^ 64
      go f p = omega arith

  fixed : (t : Bool) → Fixed 62 10 (cond t (sine_word (left_of quarter n d / d)) (cosine_word (left_of quarter n d / d))) (cond t (sine_sum false (left_of quarter n d) (2 ^ 64 * d)) (cosine_sum (left_of quarter n d) (2 ^ 64 * d)))
  fixed t = wave_fixed (left_of quarter n d) (2 ^ 64 * d) (left_of quarter n d / d) (reduced.word_low quarter n d modulus_pos dp) (reduced.word_high quarter n d modulus_pos dp) f_small t

word_lt : (p : ℕ) → p ≤ 2 ^ 62 → p < 2 ^ 64
word_lt p h = omega arith

pub wave_cut : (p : ℕ) → p ≤ 2 ^ 62 → Cut 1023 p (from_bits binary64 (packed 1023 p))
wave_cut p h = cut 1023 p (word_lt p h) (room 1023 p (lit≤ tt) (lit≤ tt) (word_lt p h))

-- the document's four cases, at k mod 4 with x's sign, are the case of - x, turned
same_wave : (j : ℕ) (s u : Bool) (F G : ℕ) → j < 4
    → negated (unlike s (unlike (nat_le 2 j) (cond (j % 2 == 0) u false))) (cond (j % 2 == 0) (sine_sum false F G) (cosine_sum F G)) ≡ wave (cond s ((4 - j) % 4) j) (unlike s u) F G
same_wave zero true true F G h = refl
same_wave zero true false F G h = refl
same_wave zero false true F G h = refl
same_wave zero false false F G h = refl
same_wave (suc zero) true u F G h = refl
same_wave (suc zero) false u F G h = refl
same_wave (suc (suc zero)) true true F G h = refl
same_wave (suc (suc zero)) true false F G h = refl
same_wave (suc (suc zero)) false true F G h = refl
same_wave (suc (suc zero)) false false F G h = refl
same_wave (suc (suc (suc zero))) true u F G h = refl
same_wave (suc (suc (suc zero))) false u F G h = refl
same_wave (suc (suc (suc (suc j)))) s u F G h = absurd (none j h)
  where
    none : (i : ℕ) → suc (suc (suc (suc i))) < 4 → ⊥
    none i p = omega arith

even_of : (k : ℕ) → k % 2 ≡ k % 4 % 2
even_of k = omega arith

large_close : (x : Float) → FiniteWithin 40 (sin_large x) (wave (quadrant x) (f_minus quarter x) (f_top quarter x) (f_bottom x))
unfolding sin_large wave_word wave_side
large_close x =
    let d = den x in
    let dp = den_pos x in
    let K = k_of quarter x in
    let F = f_top quarter x in
    let G = f_bottom x in
    let u = below_of quarter (num x) d in
    let e = nat_eq (K % 2) 0 in
    let X = cond e (sine_sum false F G) (cosine_sum F G) in
    let p = cond e (sine_word (F / d)) (cosine_word (F / d)) in
    let pm = word_most (F / d) (f_word (num x) d dp) e in
    let r = from_bits binary64 (packed 1023 p) in
    let side = unlike (sign x) (unlike (nat_le 2 (K % 4)) (cond e u false)) in
    turned_within 40 r side ((wave_cut p pm).v * 2 ^ 1023) (2 ^ 1085) (wave (quadrant x) (f_minus quarter x) F G) (wave_cut p pm).value
    (subst (λ (a : Fraction). Within 40 (negated side (record { plus = num r; minus = 0; den = den r })) a)
    (ap (λ (i : ℕ). negated (unlike (sign x) (unlike (nat_le 2 (K % 4)) (cond (i == 0) u false))) (cond (i == 0) (sine_sum false F G) (cosine_sum F G))) (even_of K)
    ∙ same_wave (K % 4) (sign x) u F G (mod-lt K (lit< tt)))
    (within_negated side 40 (record { plus = num r; minus = 0; den = den r }) X (packed_within 62 1023 10 p X refl (wave_cut p pm) (fixed (num x) d dp e) (lit≤ tt))))

sine_of_zero : sine_word 0 ≡ 0
unfolding sine_word falling
sine_of_zero = refl

-- a number L J / (B d), and the word a of it, at the scale K = B J
lacks_low : (n d a J L K B : ℕ) → L ≡ n * B → K ≡ B * J → a * d ≤ n * K → a * (B * d) ≤ L * J * B
lacks_low n d a J L K B e r s = go (mul-le-mul_right B s) (ap (λ (x : ℕ). n * x * B) r) (ap (λ (x : ℕ). x * J * B) e)
  where
    go : a * d * B ≤ n * K * B → n * K * B ≡ n * (B * J) * B → L * J * B ≡ n * B * J * B → a * (B * d) ≤ L * J * B
    go x y z = omega arith

lacks_high : (n d a J L K B : ℕ) → L ≡ n * B → K ≡ B * J → n * K ≤ a * d + d → L * J * B ≤ (a + 1) * (B * d)
lacks_high n d a J L K B e r s = go (mul-le-mul_right B s) (ap (λ (x : ℕ). n * x * B) r) (ap (λ (x : ℕ). x * J * B) e)
  where
    go : n * K * B ≤ (a * d + d) * B → n * K * B ≡ n * (B * J) * B → L * J * B ≡ n * B * J * B → L * J * B ≤ (a + 1) * (B * d)
    go x y z = omega arith

scaled_down : (o W p m S P J L H : ℕ) → p ≡ m + S → o * (W * H) ≤ L * J * S * P + 8 * (W * H) → o * (W * H) + L * m * (P * J) ≤ L * p * (P * J) + 10 * (W * H)
scaled_down o W p m S P J L H e q = omega (arith, ap (λ (n : ℕ). L * n * (P * J)) e)

scaled_rise : (o W p m S P J L H : ℕ) → p ≡ m + S → L * J * S * P ≤ (o + 1 + 8 + 1) * (W * H) → L * p * (P * J) ≤ (o + 10) * (W * H) + L * m * (P * J)
scaled_rise o W p m S P J L H e q = omega (arith, ap (λ (n : ℕ). L * n * (P * J)) e)

-- ---- below 1/4: x's own digits take the place of f's
module _ (n d : ℕ) (dp : 0 < d) (small : 4 * n < d) where
  abbrev c : ℕ
  c = size (n * 2 ^ 1074 / d)

  abbrev F : ℕ
  F = left_of quarter n d

  abbrev G : ℕ
  G = 2 ^ 64 * d

  left_is : F ≡ n * 2 ^ 64
  left_is = reduced.all_left quarter n d (lit≤ tt) small

  units_lt : n * 2 ^ 1074 < 2 ^ c * d
  units_lt = (div-lt_iff_lt-mul dp).0 (size-lt (n * 2 ^ 1074 / d))

  c_most : c ≤ 1072
  c_most = size-le (n * 2 ^ 1074 / d) 1072 ((div-lt_iff_lt-mul dp).1 (quarter_below n d small))

  -- n 2 ^ i is below d where c leaves that many digits
  under : (i j : ℕ) → c ≤ j → i + j ≡ 1074 → n * 2 ^ i < d
  under i j h e =
      lt_of_mul-lt-mul_right (2 ^ j)
      (subst (λ (a : ℕ). a < d * 2 ^ j) (ap (λ (a : ℕ). n * a) (ap (λ (a : ℕ). 2 ^ a) (sym e) ∙ pow-add 2 i j) ∙ sym (mul_assoc n (2 ^ i) (2 ^ j)))
      (lt_of_lt_of_le units_lt (subst (λ (a : ℕ). 2 ^ c * d ≤ a) (mul_comm (2 ^ j) d) (mul-le-mul_right d (pow_mono h)))))

  -- x itself, where nothing of it is left in f's word
  tiny_close : c ≤ 1010 → Within 40 (record { plus = n; minus = 0; den = d }) (sine_sum false F G)
  tiny_close h =
      let u : n * 2 ^ 64 < d = under 64 1010 h refl in
      let f : F / d ≡ 0 = ap (λ (a : ℕ). a / d) left_is ∙ div-eq_of_lt u in
      within 62 10 1 0 n d (sine_sum false F G) (quarter_of n d u) (none n d) (subst (λ (p : ℕ). Fixed 62 10 p (sine_sum false F G)) (no_word (F / d) f) (fixed n d dp true)) (lit≤ tt)
    where
      quarter_of : (a b : ℕ) → a * 2 ^ 64 < b → a * 2 ^ 62 ≤ (0 + 1) * b
      quarter_of a b p = omega arith

      none : (a b : ℕ) → 0 * b ≤ a * 2 ^ 62 + 1 * b
      none a b = omega arith

      no_word : (f : ℕ) → f ≡ 0 → sine_word f ≡ 0
      no_word f e = ap sine_word e ∙ sine_of_zero

  -- x's 64 leading digits: g / 2 ^ (64 + j) is x
  abbrev j : ℕ
  j = 1074 - c

  abbrev g : ℕ
  g = n * 2 ^ (1138 - c) / d

  places : 2 ^ (1138 - c) ≡ 2 ^ 64 * 2 ^ j
  places = ap (λ (a : ℕ). 2 ^ a) (go c c_most) ∙ pow-add 2 64 j
    where
      go : (a : ℕ) → a ≤ 1072 → 1138 - a ≡ 64 + (1074 - a)
      go a h = omega arith

  digits_low : g * G ≤ F * 2 ^ j * 2 ^ 64
  digits_low = lacks_low n d g (2 ^ j) F (2 ^ (1138 - c)) (2 ^ 64) left_is places (div-mul-le_self (n * 2 ^ (1138 - c)) d)

  digits_high : F * 2 ^ j * 2 ^ 64 ≤ (g + 1) * G
  digits_high = lacks_high n d g (2 ^ j) F (2 ^ (1138 - c)) (2 ^ 64) left_is places (le_of_lt (lt-div-mul-add dp))

  digits_word : g < 2 ^ 64
  digits_word =
      (div-lt_iff_lt-mul dp).1
      (lt_of_mul-lt-mul_right (2 ^ c)
      (subst (λ (a : ℕ). a < 2 ^ 64 * d * 2 ^ c) (mul_assoc n (2 ^ 1074) (2 ^ 64) ∙ ap (λ (a : ℕ). n * a) (sum c c_most) ∙ sym (mul_assoc n (2 ^ (1138 - c)) (2 ^ c)))
      (go (n * 2 ^ 1074) (2 ^ c) d units_lt)))
    where
      sum : (a : ℕ) → a ≤ 1072 → 2 ^ 1074 * 2 ^ 64 ≡ 2 ^ (1138 - a) * 2 ^ a
      sum a h = sym (pow-add 2 1074 64) ∙ ap (λ (b : ℕ). 2 ^ b) (back a h) ∙ pow-add 2 (1138 - a) a
        where
          back : (a : ℕ) → a ≤ 1072 → 1138 ≡ 1138 - a + a
          back a h = omega arith

      go : (x P b : ℕ) → x < P * b → x * 2 ^ 64 < 2 ^ 64 * b * P
      go x P b p = omega arith

  whole : F * 2 ^ j ≤ G
  whole = le_of_mul-le-mul_right (le_trans digits_high (subst (λ (a : ℕ). (g + 1) * G ≤ a) (mul_comm (2 ^ 64) G) (mul-le-mul_right G (up_one g digits_word)))) (pow_pos 64)
    where
      up_one : (a : ℕ) → a < 2 ^ 64 → a + 1 ≤ 2 ^ 64
      up_one a h = omega arith

  abbrev A : ℕ
  A = falling sine_words (upper (F / d) (F / d))

  near : Near A (sum_of (kept true sine_terms) (F * F) (G * G)) (sum_of (kept false sine_terms) (F * F) (G * G)) (355687428096000 * (G * G) ^ 8) (2 ^ 62)
  near = sine_near F G (F / d) (reduced.word_low quarter n d (modulus_pos n d dp) dp) (reduced.word_high quarter n d (modulus_pos n d dp) dp) (f_small n d dp)

  small_fixed : Fixed (62 + j) 10 (upper g A) (sine_sum false F G)
  unfolding alternating
  small_fixed =
      let W = 355687428096000 * (G * G) ^ 8 in
      let p = sum_of (kept true sine_terms) (F * F) (G * G) in
      let m = sum_of (kept false sine_terms) (F * F) (G * G) in
      let o = g * A / 2 ^ 64 in
      record {
        low = subst (λ (P : ℕ). o * (W * G) + F * m * P ≤ F * p * P + 10 * (W * G)) (sym (pow-add 2 62 j)) (scaled_down o W p m near.sum (2 ^ 62) (2 ^ j) F G near.split (times_low (F * 2 ^ j) G g A o near.sum W (2 ^ 62) (2 ^ 64) 8 (lit< tt) whole digits_low near.low (div-mul-le_self (g * A) (2 ^ 64))));
        high = subst (λ (P : ℕ). F * p * P ≤ (o + 10) * (W * G) + F * m * P) (sym (pow-add 2 62 j)) (scaled_rise o W p m near.sum (2 ^ 62) (2 ^ j) F G near.split (times_high (F * 2 ^ j) G g A o near.sum W (2 ^ 62) (2 ^ 64) 8 1 (lit< tt) digits_high near.high (le_of_lt (lt-div-mul-add (lit< tt))) (le_trans near.small (lit≤ tt)) (up_one g digits_word)));
      }
    where
      up_one : (a : ℕ) → a < 2 ^ 64 → a + 1 ≤ 2 ^ 64
      up_one a h = omega arith

  small_is : small_size n d ≡ from_bits binary64 (packed (c - 51) (upper g A))
  unfolding small_size
  small_is = ap (λ (f : ℕ). from_bits binary64 (packed (c - 51) (upper g (falling sine_words (upper f f))))) (ap (λ (a : ℕ). a / d) (sym left_is))

  small_word : upper g A < 2 ^ 64
  small_word = lt_of_le_of_lt {m = 2 ^ 62} (div-le_of_le-mul (2 ^ 64) (mul-le-mul {n₂ = 2 ^ 64} (le_of_lt digits_word) near.small)) (lit< tt)

  pub small_room : 1010 < c → (64 ≤ c - 51) × (c - 51 ≤ 2044)
  small_room h = go c h c_most
    where
      go : (a : ℕ) → 1010 < a → a ≤ 1072 → (64 ≤ a - 51) × (a - 51 ≤ 2044)
      go a p q = omega arith

  small_cut : 1010 < c → Cut (c - 51) (upper g A) (from_bits binary64 (packed (c - 51) (upper g A)))
  small_cut h = cut (c - 51) (upper g A) small_word (room (c - 51) (upper g A) (small_room h).0 (small_room h).1 small_word)

  small_within : 1010 < c → Within 40 (record { plus = num (from_bits binary64 (packed (c - 51) (upper g A))); minus = 0; den = den (from_bits binary64 (packed (c - 51) (upper g A))) }) (sine_sum false F G)
  small_within h = packed_within (62 + j) (c - 51) 10 (upper g A) (sine_sum false F G) (sum c h c_most) (small_cut h) small_fixed (le_trans (lit≤ {m = (10 + 1024) * 2 ^ 40} {n = 2 ^ 62} tt) (pow_mono (more j)))
    where
      sum : (a : ℕ) → 1010 < a → a ≤ 1072 → 62 + (1074 - a) + (a - 51) ≡ 1085
      sum a p q = omega arith

      more : (a : ℕ) → 62 ≤ 62 + a
      more a = omega arith

-- k is 0, and f has x's sign
wave_is : (s b : Bool) (k F G : ℕ) → k ≡ 0 → b ≡ false → wave (cond s ((4 - k % 4) % 4) (k % 4)) (unlike s b) F G ≡ negated s (sine_sum false F G)
wave_is s b k F G e f = ap (λ (i : ℕ). wave (cond s ((4 - i % 4) % 4) (i % 4)) (unlike s b) F G) e ∙ ap (λ (t : Bool). wave (cond s ((4 - 0 % 4) % 4) (0 % 4)) (unlike s t) F G) f ∙ go s
  where
    go : (t : Bool) → wave (cond t ((4 - 0 % 4) % 4) (0 % 4)) (unlike t false) F G ≡ negated t (sine_sum false F G)
    go true = refl
    go false = refl

small_close : (x : Float) → T (finite x) → 4 * num x < den x → FiniteWithin 40 (sin_small x) (wave (quadrant x) (f_minus quarter x) (f_top quarter x) (f_bottom x))
unfolding sin_small
small_close x f h =
    let n = num x in
    let d = den x in
    let dp = den_pos x in
    let X = sine_sum false (f_top quarter x) (f_bottom x) in
    subst (λ (a : Fraction). FiniteWithin 40 (sin_small x) a) (sym (wave_is (sign x) (below_of quarter n d) (k_of quarter x) (f_top quarter x) (f_bottom x) (reduced.no_turns quarter n d (lit≤ tt) h) (reduced.no_side quarter n d (lit≤ tt) h)))
    (subst (λ (y : Float). FiniteWithin 40 (cond (nat_le (size (n * 2 ^ 1074 / d)) 1010) x (cond (sign x) (neg y) y)) (negated (sign x) X)) (sym (small_is n d dp h))
    (go (nat_le (size (n * 2 ^ 1074 / d)) 1010) (leb→le (size (n * 2 ^ 1074 / d)) 1010) (nleb→lt (size (n * 2 ^ 1074 / d)) 1010)))
  where
    r : Float
    r = from_bits binary64 (packed (c (num x) (den x) (den_pos x) h - 51) (upper (g (num x) (den x) (den_pos x) h) (A (num x) (den x) (den_pos x) h)))

    go : (b : Bool) → (T b → size (num x * 2 ^ 1074 / den x) ≤ 1010) → (T (not b) → 1010 < size (num x * 2 ^ 1074 / den x)) → FiniteWithin 40 (cond b x (cond (sign x) (neg r) r)) (negated (sign x) (sine_sum false (f_top quarter x) (f_bottom x)))
    go true y k = record { number = f; close = within_negated (sign x) 40 (record { plus = num x; minus = 0; den = den x }) (sine_sum false (f_top quarter x) (f_bottom x)) (tiny_close (num x) (den x) (den_pos x) h (y tt)) }
    go false y k =
        let C = small_cut (num x) (den x) (den_pos x) h (k tt) in
        turned_within 40 r (sign x) (C.v * 2 ^ (c (num x) (den x) (den_pos x) h - 51)) (2 ^ 1085) (negated (sign x) (sine_sum false (f_top quarter x) (f_bottom x))) C.value
        (within_negated (sign x) 40 (record { plus = num r; minus = 0; den = den r }) (sine_sum false (f_top quarter x) (f_bottom x)) (small_within (num x) (den x) (den_pos x) h (k tt)))

near_close : (x : Float) → T (finite x) → FiniteWithin 40 (sin_near x) (wave (quadrant x) (f_minus quarter x) (f_top quarter x) (f_bottom x))
unfolding sin_near
near_close x f = go (nat_lt (4 * num x) (den x)) (ltb→lt (4 * num x) (den x))
  where
    go : (b : Bool) → (T b → 4 * num x < den x) → FiniteWithin 40 (cond b (sin_small x) (sin_large x)) (wave (quadrant x) (f_minus quarter x) (f_top quarter x) (f_bottom x))
    go true y = small_close x f (y tt)
    go false y = large_close x

taken : (x : Float) → T (finite x) → num x ≤ 2 ^ 20 * den x → sin_of x ≡ Some (sin_near x)
unfolding sin_of
taken nan f h = absurd f
taken (inf s) f h = absurd f
taken (fin s m e) f h = ap (λ (b : Bool). cond b (Some (sin_near (fin s m e))) None) (le-leb (m * up e) (2 ^ 20 * down e) h)

pub in_range : (x : Float) → SinRange x → sin_of x ≡ Some (sin_near x)
in_range x r = taken x r.number r.most

pub close : (x : Float) → SinRange x → (sine_refusal (sin_of x) ≡ 0) × FiniteWithin 40 (number_of (sin_of x)) (wave (quadrant x) (f_minus quarter x) (f_top quarter x) (f_bottom x))
close x r = subst (λ (y : Option Float). (sine_refusal y ≡ 0) × FiniteWithin 40 (number_of y) (wave (quadrant x) (f_minus quarter x) (f_top quarter x) (f_bottom x))) (sym (in_range x r)) (refl, near_close x r.number)
