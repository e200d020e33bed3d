-- Every float's decimal number reads back to the very float. Clients cite reads_back.
use Rattle.std.specs.Prelude.{◌≡◌, Bool, not, ◌&&◌, cond, pos, T, leb, Float}
use Rattle.std.proofs.Math.Path.{refl, ap}
use Rattle.std.proofs.Common.{sym, ◌∙◌, subst, inl, inr, le_trans, le_of_lt, lt_of_lt_of_le, mul_assoc, mul_right_comm, mul-le-mul_left, mul-le-mul_right, mul-lt-mul_of_pos_right, mod-lt, div-mul-le_self, div-add-mod', le-div_iff_mul-le, lit<, pow-add, pow_pos, pow_mono}
use Rattle.std.proofs.Math.Bool.{true, false, and-eq-true_iff as both}
use Prim.Native.Nat.{ℕ, zero, suc, ◌+◌, ◌-◌, ◌*◌, ◌/◌, ◌%◌, ◌^◌, ◌≤◌, ◌<◌}
use Rattle.std.proofs.Math.Nat.{pow-suc}
use native.Mathlib.Omega.{arith}
use borrow.Author.Tests.{eqb-true, eqb-false, eq-eqb, ne_eqb, leb-true, le-leb, ltb-true, ltb-false}
use Rattle.std.proofs.Math.Dec.{eqb, ltb}
use Rattle.std.specs.Float.{nan, inf, fin, binary64}
use Rattle.std.specs.Float.Ieee.{round, to_bits, fits, is_nan}
use Rattle.std.specs.Float.Ieee.Exact.{HasValue}
use Rattle.std.specs.Float.Ieee.Scale.{finite}
use Rattle.exact.specs.Laws.Units.{normal, subnormal}
use Rattle.decimal.specs.declared.shortest.Span.{Span}
use Rattle.decimal.specs.declared.shortest.Number.{Number}
use Rattle.decimal.specs.Scale.{place_of, top, bottom, cut_of}
use Rattle.decimal.specs.Laws.Units.{bottom_pos, power_pos}
use Rattle.decimal.proofs.Laws.Units.{quarter_facts}
use Rattle.decimal.specs.Shortest.{low_edge, least_of, most_of, span_of, inside_of, first_in, up_first, candidate_of, number_of}
use Rattle.decimal.specs.Decimal.{sign_of, field_of, low_of, steps_of, of_pattern, decimal_of, read_back}
use Rattle.decimal.specs.Laws.Nearest.{Between, Steps, rounds_to, zero_is}

-- ---- a number from the least to the most is between the edges

module _ (b a D : ℕ) where
  abbrev whole : ℕ
  whole = a * top b / bottom b

  abbrev left : ℕ
  left = a * top b % bottom b

  split : whole * bottom b + left ≡ a * top b
  split = div-add-mod' (a * top b) (bottom b)

  left_few : left < bottom b
  left_few = mod-lt (a * top b) (bottom_pos b)

  on_edge : left ≡ 0 → whole ≤ D → a * top b ≤ D * bottom b
  on_edge z h = go (whole * bottom b) (D * bottom b) left (a * top b) split z (mul-le-mul_right (bottom b) h)
    where
      go : (p q r s : ℕ) → p + r ≡ s → r ≡ 0 → p ≤ q → s ≤ q
      go p q r s e z k = omega arith

  past_edge : whole + 1 ≤ D → a * top b < D * bottom b
  past_edge h = go whole (bottom b) (D * bottom b) left (a * top b) split left_few (mul-le-mul_right (bottom b) h)
    where
      go : (w M q r s : ℕ) → w * M + r ≡ s → r < M → (w + 1) * M ≤ q → s < q
      go w M q r s e l k = omega arith

  low_even : least_of (cut_of b a) true ≤ D → a * top b ≤ D * bottom b
  low_even h = go (eqb left 0) refl h
    where
      go : (c : Bool) → eqb left 0 ≡ c → cond c whole (whole + 1) ≤ D → a * top b ≤ D * bottom b
      go true e k = on_edge (eqb-true left 0 e) k
      go false e k = le_of_lt (past_edge k)

  low_odd : least_of (cut_of b a) false ≤ D → a * top b < D * bottom b
  low_odd h = past_edge h

  up_to : D ≤ whole → D * bottom b ≤ a * top b
  up_to h = le_trans (mul-le-mul_right (bottom b) h) (div-mul-le_self (a * top b) (bottom b))

  high_even : D ≤ most_of (cut_of b a) true → D * bottom b ≤ a * top b
  high_even h = up_to h

  high_odd : 0 < whole → D ≤ most_of (cut_of b a) false → D * bottom b < a * top b
  high_odd p h = go (eqb left 0) refl h
    where
      before : (w M q r s : ℕ) → 0 < M → w * M + r ≡ s → q + M ≤ w * M → q < s
      before w M q r s m e k = omega arith

      one_less : (w d M : ℕ) → 0 < w → d ≤ w - 1 → suc d * M ≤ w * M
      one_less w d M v k = mul-le-mul_right M (less w d v k)
        where
          less : (i j : ℕ) → 0 < i → j ≤ i - 1 → suc j ≤ i
          less i j m n = omega arith

      some : (p q r s : ℕ) → p + r ≡ s → (r ≡ 0 → ⊥) → q ≤ p → q < s
      some p q r s e n k = more r e n k
        where
          more : (t : ℕ) → p + t ≡ s → (t ≡ 0 → ⊥) → q ≤ p → q < s
          more zero f m l = absurd (m refl)
          more (suc t) f m l = omega arith

      go : (c : Bool) → eqb left 0 ≡ c → D ≤ cond c (whole - 1) whole → D * bottom b < a * top b
      go true e k = before whole (bottom b) (D * bottom b) left (a * top b) (bottom_pos b) split (join (D * bottom b) (one_less whole D (bottom b) p k))
        where
          join : (z : ℕ) → suc D * bottom b ≤ whole * bottom b → D * bottom b + bottom b ≤ whole * bottom b
          join z k = omega arith
      go false e k = some (whole * bottom b) (D * bottom b) left (a * top b) split (eqb-false left 0 e) (mul-le-mul_right (bottom b) k)

-- ---- the digits found are inside

-- a number whose value is D units, with D inside the span
record Found (s : Span) (place : ℕ) (n : Number) : Type 0 where
  pub count : ℕ
  pub inside : inside_of s count ≡ true
  pub is : n.digits * 10 ^ n.place ≡ count * 10 ^ place

first_inside : (s : Span) (t p q : ℕ) → (first_in s t p q ≡ 0 → ⊥) → inside_of s (first_in s t p q * t) ≡ true
first_inside s t p q = go (inside_of s (p * t)) (inside_of s (q * t)) refl refl
  where
    go : (a b : Bool) → inside_of s (p * t) ≡ a → inside_of s (q * t) ≡ b → (cond a p (cond b q 0) ≡ 0 → ⊥) → inside_of s (cond a p (cond b q 0) * t) ≡ true
    go true b e f n = e
    go false true e f n = f
    go false false e f n = absurd (n refl)

candidate_inside : (s : Span) (t : ℕ) → (candidate_of s t ≡ 0 → ⊥) → inside_of s (candidate_of s t * t) ≡ true
unfolding candidate_of
candidate_inside s t = go (up_first s t)
  where
    go : (u : Bool) → (cond u (first_in s t (s.whole / t + 1) (s.whole / t)) (first_in s t (s.whole / t) (s.whole / t + 1)) ≡ 0 → ⊥)
        → inside_of s (cond u (first_in s t (s.whole / t + 1) (s.whole / t)) (first_in s t (s.whole / t) (s.whole / t + 1)) * t) ≡ true
    go true n = first_inside s t (s.whole / t + 1) (s.whole / t) n
    go false n = first_inside s t (s.whole / t) (s.whole / t + 1) n

found : (s : Span) (place k : ℕ) → inside_of s s.whole ≡ true → Found s place (number_of s place k)
unfolding number_of
found s place zero h = record { count = s.whole; inside = h; is = refl }
found s place (suc k) h = go (candidate_of s (10 ^ suc k)) refl (eqb (candidate_of s (10 ^ suc k)) 0) refl (found s place k h)
  where
    go : (d : ℕ) → candidate_of s (10 ^ suc k) ≡ d → (c : Bool) → eqb d 0 ≡ c → Found s place (number_of s place k) → Found s place (cond c (number_of s place k) (record { digits = d; place = place + suc k }))
    go d e true f r = r
    go d e false f r = record {
      count = d * 10 ^ suc k;
      inside = subst (λ (z : ℕ). inside_of s (z * 10 ^ suc k) ≡ true) e (candidate_inside s (10 ^ suc k) (λ z. eqb-false d 0 f (sym e ∙ z)));
      is = ap (λ (z : ℕ). d * z) (pow-add 10 place (suc k)) ∙ sym (mul_assoc d (10 ^ place) (10 ^ suc k)) ∙ mul_right_comm d (10 ^ place) (10 ^ suc k);
    }

-- ---- a float's own units are inside its span

grows : (b p q : ℕ) → 0 < b → b < 2047 → p + 1 ≤ q → p * top b / bottom b + 1 ≤ q * top b / bottom b
grows b p q h k l = (le-div_iff_mul-le (bottom_pos b)).1 (go (p * top b / bottom b) (q * top b) (top b) (bottom b) (div-mul-le_self (p * top b) (bottom b)) (mul-le-mul_right (top b) l) (quarter_facts b h k).least)
  where
    go : (w y t M : ℕ) → w * M ≤ p * t → (p + 1) * t ≤ y → 10 * M ≤ t → (w + 1) * M ≤ y
    go w y t M u v n = omega arith

least_under : (w d : ℕ) (c e : Bool) → w + 1 ≤ d → cond (e && c) w (w + 1) ≤ d
least_under w d c true h = go c
  where
    go : (t : Bool) → cond t w (w + 1) ≤ d
    go true = omega arith
    go false = h
least_under w d c false h = h

most_over : (w d : ℕ) (c e : Bool) → d + 1 ≤ w → d ≤ cond (not e && c) (w - 1) w
most_over w d c true h = omega arith
most_over w d c false h = go c
  where
    go : (t : Bool) → d ≤ cond t (w - 1) w
    go true = omega arith
    go false = omega arith

own_inside : (b m : ℕ) (narrow : Bool) → 0 < b → b < 2047 → low_edge m narrow + 1 ≤ 4 * m → inside_of (span_of b m narrow) (span_of b m narrow).whole ≡ true
unfolding inside_of span_of
own_inside b m narrow h k near =
    rw (
      le-leb _ _ (least_under _ _ (eqb (low_edge m narrow * top b % bottom b) 0) (eqb (m % 2) 0) (grows b (low_edge m narrow) (4 * m) h k near)),
      le-leb _ _ (most_over _ _ (eqb ((4 * m + 2) * top b % bottom b) 0) (eqb (m % 2) 0) (grows b (4 * m) (4 * m + 2) h k (two m))),
    ) refl
  where
    two : (n : ℕ) → 4 * n + 1 ≤ 4 * n + 2
    two n = omega arith

inside_least : (s : Span) (d : ℕ) → inside_of s d ≡ true → s.least ≤ d
unfolding inside_of
inside_least s d h = leb-true s.least d ((both (leb s.least d) (leb d s.most)).0 h).0

inside_most : (s : Span) (d : ℕ) → inside_of s d ≡ true → d ≤ s.most
unfolding inside_of
inside_most s d h = leb-true d s.most ((both (leb s.least d) (leb d s.most)).0 h).1

-- ---- edges in units of 2 ^ -1074, over 10 ^ 326

module _ (b j : ℕ) (B : b ≡ suc j) where
  top_is : (a : ℕ) → a * top b ≡ 2 * (a * (10 ^ 326 * 2 ^ j))
  unfolding top
  top_is a = ap (λ (z : ℕ). a * (z * 10 ^ 326)) (ap (λ (z : ℕ). 2 ^ z) B ∙ pow-suc 2 j) ∙ go (2 ^ j) (10 ^ 326)
    where
      go : (P e : ℕ) → a * (P * 2 * e) ≡ 2 * (a * (e * P))
      go P e = omega arith

  bottom_is : (d : ℕ) → d * bottom b ≡ 2 * (4 * (d * 10 ^ place_of b * 2 ^ 1074))
  unfolding bottom
  bottom_is d = ap (λ (z : ℕ). d * (z * 10 ^ place_of b)) (pow-add 2 3 1074) ∙ go (2 ^ 1074) (10 ^ place_of b)
    where
      go : (t q : ℕ) → d * (8 * t * q) ≡ 2 * (4 * (d * q * t))
      go t q = omega arith

  half_le : (p q : ℕ) → 2 * p ≤ 2 * q → p ≤ q
  half_le p q h = omega arith

  half_lt : (p q : ℕ) → 2 * p < 2 * q → p < q
  half_lt p q h = omega arith

  from_le : (a d : ℕ) → a * top b ≤ d * bottom b → a * (10 ^ 326 * 2 ^ j) ≤ 4 * (d * 10 ^ place_of b * 2 ^ 1074)
  from_le a d h = half_le _ _ (subst (λ (z : ℕ). 2 * (a * (10 ^ 326 * 2 ^ j)) ≤ z) (bottom_is d) (subst (λ (z : ℕ). z ≤ d * bottom b) (top_is a) h))

  from_lt : (a d : ℕ) → a * top b < d * bottom b → a * (10 ^ 326 * 2 ^ j) < 4 * (d * 10 ^ place_of b * 2 ^ 1074)
  from_lt a d h = half_lt _ _ (subst (λ (z : ℕ). 2 * (a * (10 ^ 326 * 2 ^ j)) < z) (bottom_is d) (subst (λ (z : ℕ). z < d * bottom b) (top_is a) h))

  to_le : (a d : ℕ) → d * bottom b ≤ a * top b → 4 * (d * 10 ^ place_of b * 2 ^ 1074) ≤ a * (10 ^ 326 * 2 ^ j)
  to_le a d h = half_le _ _ (subst (λ (z : ℕ). 2 * (4 * (d * 10 ^ place_of b * 2 ^ 1074)) ≤ z) (top_is a) (subst (λ (z : ℕ). z ≤ a * top b) (bottom_is d) h))

  to_lt : (a d : ℕ) → d * bottom b < a * top b → 4 * (d * 10 ^ place_of b * 2 ^ 1074) < a * (10 ^ 326 * 2 ^ j)
  to_lt a d h = half_lt _ _ (subst (λ (z : ℕ). 2 * (4 * (d * 10 ^ place_of b * 2 ^ 1074)) < z) (top_is a) (subst (λ (z : ℕ). z < a * top b) (bottom_is d) h))

  between : (m L D : ℕ) → 0 < (4 * m + 2) * top b / bottom b → least_of (cut_of b L) (eqb (m % 2) 0) ≤ D → D ≤ most_of (cut_of b (4 * m + 2)) (eqb (m % 2) 0) → Between m (D * 10 ^ place_of b * 2 ^ 1074) (10 ^ 326 * 2 ^ j) L
  between m L D p = go (eqb (m % 2) 0) refl
    where
      no_odd : m % 2 ≡ 0 → m % 2 ≡ 1 → ⊥
      no_odd e f = omega arith

      go : (c : Bool) → eqb (m % 2) 0 ≡ c → least_of (cut_of b L) c ≤ D → D ≤ most_of (cut_of b (4 * m + 2)) c → Between m (D * 10 ^ place_of b * 2 ^ 1074) (10 ^ 326 * 2 ^ j) L
      go true e l h = record {
        lo = from_le L D (low_even b L D l);
        hi = to_le (4 * m + 2) D (high_even b (4 * m + 2) D h);
        lo_odd = λ o. absurd (no_odd (eqb-true (m % 2) 0 e) o);
        hi_odd = λ o. absurd (no_odd (eqb-true (m % 2) 0 e) o);
      }
      go false e l h = record {
        lo = le_of_lt (from_lt L D (low_odd b L D l));
        hi = le_of_lt (to_lt (4 * m + 2) D (high_odd b (4 * m + 2) D p h));
        lo_odd = λ o. from_lt L D (low_odd b L D l);
        hi_odd = λ o. to_lt (4 * m + 2) D (high_odd b (4 * m + 2) D p h);
      }

-- ---- steps read back

steps_back : (x : Float) (s : Bool) (b j m : ℕ) (narrow : Bool) → T (fits binary64 x) → b ≡ suc j → j ≤ 2045 → low_edge m narrow + 1 ≤ 4 * m → Steps m j (low_edge m narrow) → HasValue x s (m * 2 ^ j) (2 ^ 1074)
    → read_back (steps_of s b m narrow) ≡ x
unfolding read_back span_of
steps_back x s b j m narrow F B J near t v =
    let h : 0 < b = subst (λ (z : ℕ). 0 < z) (sym B) (some j) in
    let k : b < 2047 = subst (λ (z : ℕ). z < 2047) (sym B) (small j J) in
    let f = found (span_of b m narrow) (place_of b) 18 (own_inside b m narrow h k near) in
    ap (λ (z : ℕ). round binary64 s z (10 ^ 326)) f.is
    ∙ rounds_to x s m j (low_edge m narrow) (f.count * 10 ^ place_of b) (10 ^ 326) F v (few (m * 2 ^ j) (mul-lt-mul_of_pos_right t.few (pow_pos j)) (mul-le-mul_left (2 ^ 53) (pow_mono J))) (power_pos 10 326 (lit< tt)) t
    (between b j B m (low_edge m narrow) f.count (lt_of_lt_of_le (one m) (le_trans (omega arith) (grows b (4 * m + 1) (4 * m + 2) h k (two m)))) (inside_least (span_of b m narrow) f.count f.inside) (inside_most (span_of b m narrow) f.count f.inside))
  where
    some : (n : ℕ) → 0 < suc n
    some n = omega arith

    small : (n : ℕ) → n ≤ 2045 → suc n < 2047
    small n p = omega arith

    one : (n : ℕ) → 0 < 1
    one n = omega arith

    two : (n : ℕ) → 4 * n + 1 + 1 ≤ 4 * n + 2
    two n = omega arith

    few : (n : ℕ) → n < 2 ^ 53 * 2 ^ j → 2 ^ 53 * 2 ^ j ≤ 2 ^ 2098 → n < 2 ^ 2098
    few n p q = lt_of_lt_of_le p q

-- ---- what a pattern says of the steps

subnormal_steps : (m : ℕ) → 0 < m → m < 2 ^ 52 → Steps m 0 (low_edge m false)
subnormal_steps m p h = record { few = omega arith; near = omega arith; lead = inl refl }

normal_steps : (low p : ℕ) → low < 2 ^ 52 → Steps (2 ^ 52 + low) p (low_edge (2 ^ 52 + low) (eqb low 0 && ltb 1 (suc p)))
normal_steps low p h = go (eqb low 0) (ltb 1 (suc p)) refl refl
  where
    go : (c d : Bool) → eqb low 0 ≡ c → ltb 1 (suc p) ≡ d → Steps (2 ^ 52 + low) p (low_edge (2 ^ 52 + low) (c && d))
    go true true e f = let z : low ≡ 0 = eqb-true low 0 e in let g : 1 < suc p = ltb-true 1 (suc p) f in record { few = omega arith; near = omega arith; lead = inr (inr (omega arith, omega arith, omega arith)) }
    go true false e f = let z : low ≡ 0 = eqb-true low 0 e in let g : suc p ≤ 1 = ltb-false 1 (suc p) f in record { few = omega arith; near = omega arith; lead = inl (omega arith) }
    go false d e f = record { few = omega arith; near = omega arith; lead = inr (inl (high low (eqb-false low 0 e))) }
      where
        high : (n : ℕ) → (n ≡ 0 → ⊥) → 2 ^ 54 ≤ 4 * (2 ^ 52 + n) - 2
        high zero q = absurd (q refl)
        high (suc n) q = omega arith

edge_near : (m : ℕ) (narrow : Bool) → 0 < m → low_edge m narrow + 1 ≤ 4 * m
edge_near m true h = omega arith
edge_near m false h = omega arith

-- ---- patterns read back

zero_back : (s : Bool) → round binary64 s (0 * 10 ^ 326) (10 ^ 326) ≡ fin s 0 (pos 0)
unfolding round
zero_back s = refl

module _ (x : Float) (F : T (fits binary64 x)) (f : T (finite x)) where
  bits : ℕ
  bits = to_bits binary64 x

  at_zero : field_of bits ≡ 0 → low_of bits ≡ 0 → read_back (of_pattern bits) ≡ x
  unfolding of_pattern read_back bits
  at_zero e z =
      rw (ne_eqb (field_of bits) 2047 (λ g. apart e g), eq-eqb (field_of bits) 0 e, eq-eqb (low_of bits) 0 z)
      (zero_back (sign_of bits) ∙ zero_is x (sign_of bits) F (subst (λ (n : ℕ). HasValue x (sign_of bits) (n * 2 ^ 0) (2 ^ 1074)) z (subnormal x F f e).is))
    where
      apart : field_of bits ≡ 0 → field_of bits ≡ 2047 → ⊥
      apart p q = omega arith

  at_subnormal : field_of bits ≡ 0 → (low_of bits ≡ 0 → ⊥) → read_back (of_pattern bits) ≡ x
  unfolding of_pattern bits
  at_subnormal e z =
      rw (ne_eqb (field_of bits) 2047 (λ g. apart e g), eq-eqb (field_of bits) 0 e, ne_eqb (low_of bits) 0 z)
      (steps_back x (sign_of bits) 1 0 (low_of bits) false F refl (omega arith) (edge_near (low_of bits) false (some (low_of bits) z)) (subnormal_steps (low_of bits) (some (low_of bits) z) (mod-lt bits (pow_pos 52))) (subnormal x F f e).is)
    where
      apart : field_of bits ≡ 0 → field_of bits ≡ 2047 → ⊥
      apart p q = omega arith

      some : (n : ℕ) → (n ≡ 0 → ⊥) → 0 < n
      some zero q = absurd (q refl)
      some (suc n) q = omega arith

  at_normal : (p : ℕ) → field_of bits ≡ suc p → read_back (of_pattern bits) ≡ x
  unfolding of_pattern bits
  at_normal p e =
      let said = normal x F f p e in
      rw (ne_eqb (field_of bits) 2047 (λ g. apart said.small.low e g), ne_eqb (field_of bits) 0 (λ g. other e g), e)
      (steps_back x (sign_of bits) (suc p) p (2 ^ 52 + low_of bits) (eqb (low_of bits) 0 && ltb 1 (suc p)) F refl said.small.low (edge_near (2 ^ 52 + low_of bits) (eqb (low_of bits) 0 && ltb 1 (suc p)) (some (low_of bits))) (normal_steps (low_of bits) p (mod-lt bits (pow_pos 52))) said.is)
    where
      apart : p ≤ 2045 → field_of bits ≡ suc p → field_of bits ≡ 2047 → ⊥
      apart h u v = omega arith

      other : field_of bits ≡ suc p → field_of bits ≡ 0 → ⊥
      other u v = omega arith

      some : (n : ℕ) → 0 < 2 ^ 52 + n
      some n = omega arith

  finite_back : read_back (of_pattern (to_bits binary64 x)) ≡ x
  unfolding bits
  finite_back = go (field_of bits) refl (eqb (low_of bits) 0) refl
    where
      go : (k : ℕ) → field_of bits ≡ k → (c : Bool) → eqb (low_of bits) 0 ≡ c → read_back (of_pattern bits) ≡ x
      go zero e true z = at_zero e (eqb-true (low_of bits) 0 z)
      go zero e false z = at_subnormal e (eqb-false (low_of bits) 0 z)
      go (suc p) e c z = at_normal p e

-- every float, an infinity and a NaN too
pub reads_back : (x : Float) → T (fits binary64 x) → read_back (decimal_of x) ≡ x
unfolding decimal_of of_pattern read_back to_bits is_nan
reads_back nan F = refl
reads_back (inf true) F = refl
reads_back (inf false) F = refl
reads_back (fin s m e) F = finite_back (fin s m e) F tt
