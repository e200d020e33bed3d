-- Horner's rule over words, each product cut to its upper half, is within a few units of the exact sum: `horner_close` where every term is added,
-- `falling_near` where the signs alternate. A table of words is held against the table of exact terms by one computed test, and its words against 2 ^ 62 by another (`small`),
-- so that how large a sum is (`horner_small`) does not hang on the terms. Assumes nothing.
use Rattle.std.specs.Prelude.{◌≡◌, ℕ, zero, suc, ◌+◌, ◌-◌, ◌*◌, ◌/◌, ◌^◌, ◌<◌, ◌≤◌, Bool, true, false, not, ◌&&◌, T, List, [], ◌∷◌, length, nat_le, refl}
use Rattle.std.proofs.Common.{sym, ap, ◌∙◌, le_trans, mul-le-mul, mul-le-mul_left, mul-le-mul_right, le_of_mul-le-mul_right, mul-one, mul-zero, zero-mul, add-zero, mul_assoc, mul_comm, pow-suc, sub-add_cancel, sub-le, arith, leb→le, lit<, lit≤}
use Rattle.std.proofs.Math.Path.{subst}
use Rattle.std.proofs.Math.Nat.{div-le_of_le-mul, lt-div-mul-add, sub-zero, zero-div, pow-zero}
use Rattle.std.specs.Float.Ieee.Fits.{and_l, and_r}
use Rattle.functions.specs.Fraction.{sum_of, kept}
use Rattle.functions.specs.Words.{horner, falling}
use Rattle.functions.specs.Laws.Product.{product_low, product_high}

-- a word c is the term a over h in units of 2 ^ -62, to s of them
abbrev pub near : ℕ → ℕ → ℕ → ℕ → Bool
near s h c a = nat_le (c * h) (a * 2 ^ 62 + s * h) && nat_le (a * 2 ^ 62) ((c + s) * h)

-- or that number cut
abbrev pub word : ℕ → ℕ → ℕ → Bool
word h c a = nat_le (c * h) (a * 2 ^ 62) && nat_le (a * 2 ^ 62) ((c + 1) * h)

two : {a b c d : ℕ} → T (nat_le a b && nat_le c d) → (a ≤ b) × (c ≤ d)
two {a} {b} {c} {d} t = (leb→le a b (and_l (nat_le a b) (nat_le c d) t), leb→le c d (and_r (nat_le a b) (nat_le c d) t))

-- ---- how large a sum is, whatever its words stand for

-- each word is at most 2 ^ 62
abbrev pub small : List ℕ → Bool
small [] = true
small (c ∷ cs) = nat_le c (2 ^ 62) && small cs

first_small : (c : ℕ) (cs : List ℕ) → T (small (c ∷ cs)) → c ≤ 2 ^ 62
first_small c cs t = leb→le c (2 ^ 62) (and_l (nat_le c (2 ^ 62)) (small cs) t)

rest_small : (c : ℕ) (cs : List ℕ) → T (small (c ∷ cs)) → T (small cs)
rest_small c cs t = and_r (nat_le c (2 ^ 62)) (small cs) t

third : (n : ℕ) → n ≤ 2 ^ 62 + 2 ^ 60 → 3 * n ≤ 2 ^ 64
third n p = omega arith

-- where y is at most 1 / 8 and every term is added, the sum is at most 5 / 4
pub horner_small : (y : ℕ) → 8 * y ≤ 2 ^ 64 → (cs : List ℕ) → T (small cs) → horner cs y ≤ 2 ^ 62 + 2 ^ 60
unfolding horner
horner_small y b [] t = lit≤ tt
horner_small y b (c ∷ cs) t =
    add_up c (horner cs y * y / 2 ^ 64) (first_small c cs t) (div-le_of_le-mul (2 ^ 64) (sixteen (horner cs y) y (2 ^ 64 * 2 ^ 60) (mul-le-mul (third (horner cs y) (horner_small y b cs (rest_small c cs t))) b)))
  where
    -- (3 A) (8 y) ≤ 2 ^ 64 * 2 ^ 64
    sixteen : (x y z : ℕ) → 3 * x * (8 * y) ≤ 16 * z → x * y ≤ z
    sixteen x y z p = omega arith

    add_up : (x y : ℕ) → x ≤ 2 ^ 62 → y ≤ 2 ^ 60 → x + y ≤ 2 ^ 62 + 2 ^ 60
    add_up x y p q = omega arith

-- ---- against the terms

-- the units that a sum lacks after n steps, from s at its last term, each step shrinking them by ρ
unfoldable pub slack : ℕ → ℕ → ℕ → ℕ
slack ρ s zero = s
slack ρ s (suc n) = slack ρ s n / ρ + 4

-- A is the sum T / W in units of 2 ^ -62, to s of them
pub record Close (A T W s : ℕ) : Type 0 where
  pub low : A * W ≤ T * 2 ^ 62 + s * W
  pub high : T * 2 ^ 62 ≤ (A + s) * W

-- every word but the last is its term, cut, and the last is near its own
abbrev pub words : ℕ → ℕ → List ℕ → List ℕ → Bool
words s h [] [] = true
words s h [] (a ∷ ts) = false
words s h (c ∷ cs) [] = false
words s h (c ∷ []) (a ∷ []) = near s h c a
words s h (c ∷ []) (a ∷ b ∷ ts) = false
words s h (c ∷ d ∷ cs) (a ∷ ts) = word h c a && words s h (d ∷ cs) ts

module _ (h Y U N : ℕ) (yl : Y * N ≤ U * 2 ^ 64) (yh : U * 2 ^ 64 ≤ (Y + 3) * N) where
  up_one : (m : ℕ) → h * N ^ suc m ≡ h * N ^ m * N
  up_one m = ap (λ (n : ℕ). h * n) (pow-suc N m) ∙ sym (mul_assoc h (N ^ m) N)

  -- ---- every term added; y is at most 1 / ρ, and that at most 1 / 8
  module _ (ρ s : ℕ) (yb : ρ * (Y + 3) ≤ 1 * 2 ^ 64) (e : 8 ≤ ρ) where
    one : (c a : ℕ) → T (near s h c a) → Close (c + 0 * Y / 2 ^ 64) (a * N ^ 0 + U * 0) (h * N ^ 0) s
    one c a t =
        let w = two t in
        rw (zero-mul Y, zero-div (2 ^ 64), add-zero c, pow-zero N, mul-zero U, mul-one a, mul-one h, add-zero a)
        (record { low = w.0; high = w.1 })

    eighth : 8 * Y ≤ 2 ^ 64
    eighth = le_trans (go (mul-le-mul_right (Y + 3) e)) yb
      where
        go : 8 * (Y + 3) ≤ ρ * (Y + 3) → 8 * Y ≤ ρ * (Y + 3)
        go u = omega arith

    next : (c a A S m z : ℕ) → T (word h c a) → A ≤ 2 ^ 62 + 2 ^ 60 → Close A S (h * N ^ m) z → Close (c + A * Y / 2 ^ 64) (a * N ^ suc m + U * S) (h * N ^ suc m) (z / ρ + 4)
    next c a A S m z t b k =
        let w = two t in
        let ab : 3 * A ≤ 2 ^ 64 = third A b in
        let W = h * N ^ m in
        let K = N ^ suc m in
        let g = z / ρ + 1 in
        let rp : 0 < ρ = omega arith in
        let zg : 1 * z ≤ ρ * g = over z ρ (z / ρ) (lt-div-mul-add rp) in
        subst (λ (v : ℕ). Close (c + A * Y / 2 ^ 64) (a * K + U * S) v (z / ρ + 4)) (sym (up_one m))
        (record {
          low = step_low (A * Y / 2 ^ 64) W K S (z / ρ) (2 ^ 62) (up_one m) (product_low A W S (2 ^ 62) Y N U (2 ^ 64) z g ρ 1 (lit< tt) rp k.low k.high yl yh ab yb zg) (mul-le-mul_right K w.0);
          high = step_high (A * Y / 2 ^ 64) W K S (z / ρ) (2 ^ 62) (up_one m) (product_high A W S (2 ^ 62) Y N U (2 ^ 64) z g ρ 1 (lit< tt) rp k.low k.high yl yh ab yb zg) (mul-le-mul_right K w.1);
        })
      where
        over : (x r q : ℕ) → x < q * r + r → 1 * x ≤ r * (q + 1)
        over x r q p = omega arith

        step_low : (t W K T q P : ℕ) → h * K ≡ W * N → t * (W * N) ≤ U * T * P + (q + 1) * (W * N) → c * h * K ≤ a * P * K → (c + t) * (W * N) ≤ (a * K + U * T) * P + (q + 4) * (W * N)
        step_low t W K T q P f p r = omega (arith, ap (λ (n : ℕ). c * n) f)

        step_high : (t W K T q P : ℕ) → h * K ≡ W * N → U * T * P ≤ (t + 2 + (q + 1)) * (W * N) → a * P * K ≤ (c + 1) * h * K → (a * K + U * T) * P ≤ (c + t + (q + 4)) * (W * N)
        step_high t W K T q P f p r = omega (arith, ap (λ (n : ℕ). (c + 1) * n) f)

    -- the whole sum
    pub horner_close : (c : ℕ) (cs : List ℕ) (a : ℕ) (ts : List ℕ) → T (small (c ∷ cs)) → T (words s h (c ∷ cs) (a ∷ ts)) → Close (horner (c ∷ cs) Y) (sum_of (a ∷ ts) U N) (h * N ^ length ts) (slack ρ s (length ts))
    unfolding horner sum_of slack
    horner_close c [] a [] g t = one c a t
    horner_close c [] a (b ∷ ts) g t = absurd t
    horner_close c (d ∷ cs) a [] g t = absurd (and_r (word h c a) false t)
    horner_close c (d ∷ cs) a (b ∷ ts) g t =
        let r = rest_small c (d ∷ cs) g in
        next c a (horner (d ∷ cs) Y) (sum_of (b ∷ ts) U N) (length ts) (slack ρ s (length ts)) (and_l (word h c a) (words s h (d ∷ cs) (b ∷ ts)) t) (horner_small Y eighth (d ∷ cs) r)
        (horner_close d cs b ts r (and_r (word h c a) (words s h (d ∷ cs) (b ∷ ts)) t))

-- ---- signs that alternate

-- each word is its term over h, cut, and 7 more than the next
abbrev pub falls : ℕ → List ℕ → List ℕ → Bool
falls h [] [] = true
falls h [] (a ∷ ts) = false
falls h (c ∷ cs) [] = false
falls h (c ∷ []) (a ∷ ts) = word h c a && falls h [] ts
falls h (c ∷ d ∷ cs) (a ∷ ts) = word h c a && (nat_le (d + 7) c && falls h (d ∷ cs) ts)

-- the exact sum is (p - m) / W, and A is that in units of 2 ^ -62, to 8 of them
pub record Near (A p m W c : ℕ) : Type 0 where
  pub sum : ℕ
  pub split : p ≡ m + sum
  pub low : A * W ≤ sum * 2 ^ 62 + 8 * W
  pub high : sum * 2 ^ 62 ≤ (A + 8) * W
  pub small : A ≤ c
  pub most : c ≤ 2 ^ 62

length_kept : (b : Bool) (ts : List ℕ) → length (kept b ts) ≡ length ts
unfolding kept
length_kept b [] = refl
length_kept b (a ∷ ts) = ap suc (length_kept (not b) ts)

-- one step over variables; t is the product's upper half, r the exact rest
module _ (W S P N U C a h K t : ℕ) (hk : h * K ≡ W * N) (cl : C * h ≤ a * P) (ch : a * P ≤ (C + 1) * h) (pp : 0 < P)
    (pl : t * (W * N) ≤ U * S * P + 5 * (W * N)) (ph : U * S * P ≤ (t + 2 + 5) * (W * N)) (less : t + 7 ≤ C) where
  term_low : C * (W * N) ≤ a * K * P
  term_low = join (mul-le-mul_right K cl) (ap (λ (n : ℕ). C * n) hk)
    where
      join : C * h * K ≤ a * P * K → C * (h * K) ≡ C * (W * N) → C * (W * N) ≤ a * K * P
      join p q = omega arith

  term_high : a * K * P ≤ (C + 1) * (W * N)
  term_high = join (mul-le-mul_right K ch) (ap (λ (n : ℕ). (C + 1) * n) hk)
    where
      join : a * P * K ≤ (C + 1) * h * K → (C + 1) * (h * K) ≡ (C + 1) * (W * N) → a * K * P ≤ (C + 1) * (W * N)
      join p q = omega arith

  taken : U * S ≤ a * K
  taken = le_of_mul-le-mul_right (le_trans (le_trans ph (mul-le-mul_right (W * N) (seven less))) term_low) pp
    where
      seven : t + 7 ≤ C → t + 2 + 5 ≤ C
      seven p = omega arith

  below : t ≤ C
  below = omega arith

  fall_low : (C - t) * (W * N) ≤ (a * K - U * S) * P + 8 * (W * N)
  fall_low = join (C - t) (a * K - U * S) ph term_low (ap (λ (n : ℕ). n * (W * N)) (sub-add_cancel below)) (ap (λ (n : ℕ). n * P) (sub-add_cancel taken))
    where
      join : (e r : ℕ) → U * S * P ≤ (t + 2 + 5) * (W * N) → C * (W * N) ≤ a * K * P → (e + t) * (W * N) ≡ C * (W * N) → (r + U * S) * P ≡ a * K * P → e * (W * N) ≤ r * P + 8 * (W * N)
      join e r p q s u = omega arith

  fall_high : (a * K - U * S) * P ≤ (C - t + 8) * (W * N)
  fall_high = join (C - t) (a * K - U * S) pl term_high (ap (λ (n : ℕ). n * (W * N)) (sub-add_cancel below)) (ap (λ (n : ℕ). n * P) (sub-add_cancel taken))
    where
      join : (e r : ℕ) → t * (W * N) ≤ U * S * P + 5 * (W * N) → a * K * P ≤ (C + 1) * (W * N) → (e + t) * (W * N) ≡ C * (W * N) → (r + U * S) * P ≡ a * K * P → r * P ≤ (e + 8) * (W * N)
      join e r p q s u = omega arith

-- y is at most 5 / 8
module _ (h Y U N : ℕ) (yl : Y * N ≤ U * 2 ^ 64) (yh : U * 2 ^ 64 ≤ (Y + 3) * N) (yb : 8 * (Y + 3) ≤ 5 * 2 ^ 64) (y1 : Y ≤ 2 ^ 64) where
  first : (c a : ℕ) → c ≤ 2 ^ 62 → T (word h c a) → Near (c - 0 * Y / 2 ^ 64) (a * N ^ 0 + U * 0) (0 * N ^ 0 + U * 0) (h * N ^ 0) c
  first c a g t =
      let w = two t in
      rw (zero-mul Y, zero-div (2 ^ 64), sub-zero c, pow-zero N, mul-zero U, mul-one a, mul-one h, add-zero a, mul-one 0)
      (record { sum = a; split = omega arith; low = grow (c * h) (a * 2 ^ 62) h w.0; high = wider c h (a * 2 ^ 62) w.1; small = omega arith; most = g })
    where
      grow : (x y z : ℕ) → x ≤ y → x ≤ y + 8 * z
      grow x y z p = omega arith

      wider : (x y z : ℕ) → z ≤ (x + 1) * y → z ≤ (x + 8) * y
      wider x y z p = omega arith

  falls_on : (c a A p m j d : ℕ) → c ≤ 2 ^ 62 → T (word h c a) → d + 7 ≤ c → Near A p m (h * N ^ j) d → Near (c - A * Y / 2 ^ 64) (a * N ^ suc j + U * m) (0 * N ^ suc j + U * p) (h * N ^ suc j) c
  falls_on c a A p m j d b t g k =
      let w = two t in
      let W = h * N ^ j in
      let K = N ^ suc j in
      let S = k.sum in
      let ab : 3 * A ≤ 2 ^ 64 = threefold A d k.small k.most in
      let u = A * Y / 2 ^ 64 in
      let hk = up_one h Y U N yl yh j in
      let pl = product_low A W S (2 ^ 62) Y N U (2 ^ 64) 8 5 8 5 (lit< tt) (lit< tt) k.low k.high yl yh ab yb (lit≤ tt) in
      let ph = product_high A W S (2 ^ 62) Y N U (2 ^ 64) 8 5 8 5 (lit< tt) (lit< tt) k.low k.high yl yh ab yb (lit≤ tt) in
      let l : u + 7 ≤ c = less u A d c (div-le_of_le-mul (2 ^ 64) (subst (λ (n : ℕ). A * Y ≤ n) (mul_comm A (2 ^ 64)) (mul-le-mul_left A y1))) k.small g in
      subst (λ (v : ℕ). Near (c - u) (a * K + U * m) (0 * K + U * p) v c) (sym hk)
      (record {
        sum = a * K - U * S;
        split = parts (a * K) (U * S) (a * K - U * S) U m p S K (sub-add_cancel (taken W S (2 ^ 62) N U c a h K u hk w.0 w.1 (lit< tt) pl ph l)) (ap (λ (n : ℕ). U * n) k.split) refl;
        low = fall_low W S (2 ^ 62) N U c a h K u hk w.0 w.1 (lit< tt) pl ph l;
        high = fall_high W S (2 ^ 62) N U c a h K u hk w.0 w.1 (lit< tt) pl ph l;
        small = sub-le c u;
        most = b;
      })
    where
      threefold : (x y : ℕ) → x ≤ y → y ≤ 2 ^ 62 → 3 * x ≤ 2 ^ 64
      threefold x y p q = omega arith

      less : (x y z v : ℕ) → x ≤ y → y ≤ z → z + 7 ≤ v → x + 7 ≤ v
      less x y z v p q r = omega arith

      parts : (x y r u m p s k : ℕ) → r + y ≡ x → u * p ≡ u * (m + s) → u * s ≡ y → x + u * m ≡ 0 * k + u * p + r
      parts x y r u m p s k e f g = omega arith

  -- the whole sum
  pub falling_near : (c : ℕ) (cs : List ℕ) (a : ℕ) (ts : List ℕ) → T (small (c ∷ cs)) → T (falls h (c ∷ cs) (a ∷ ts))
      → Near (falling (c ∷ cs) Y) (sum_of (kept true (a ∷ ts)) U N) (sum_of (kept false (a ∷ ts)) U N) (h * N ^ length ts) c
  unfolding falling sum_of kept
  falling_near c [] a [] g t = first c a (first_small c [] g) (and_l (word h c a) true t)
  falling_near c [] a (b ∷ ts) g t = absurd (and_r (word h c a) false t)
  falling_near c (d ∷ cs) a [] g t = absurd (and_r (nat_le (d + 7) c) false (and_r (word h c a) (nat_le (d + 7) c && false) t))
  falling_near c (d ∷ cs) a (b ∷ ts) g t =
      let r = and_r (word h c a) (nat_le (d + 7) c && falls h (d ∷ cs) (b ∷ ts)) t in
      subst (λ (j : ℕ). Near (c - falling (d ∷ cs) Y * Y / 2 ^ 64) (a * N ^ suc j + U * sum_of (kept false (b ∷ ts)) U N) (0 * N ^ suc (length (kept false ts)) + U * sum_of (kept true (b ∷ ts)) U N) (h * N ^ suc (length ts)) c) (sym (length_kept true ts))
      (subst (λ (j : ℕ). Near (c - falling (d ∷ cs) Y * Y / 2 ^ 64) (a * N ^ suc (length ts) + U * sum_of (kept false (b ∷ ts)) U N) (0 * N ^ suc j + U * sum_of (kept true (b ∷ ts)) U N) (h * N ^ suc (length ts)) c) (sym (length_kept false ts))
      (falls_on c a (falling (d ∷ cs) Y) (sum_of (kept true (b ∷ ts)) U N) (sum_of (kept false (b ∷ ts)) U N) (length ts) d (first_small c (d ∷ cs) g) (and_l (word h c a) (nat_le (d + 7) c && falls h (d ∷ cs) (b ∷ ts)) t)
      (leb→le (d + 7) c (and_l (nat_le (d + 7) c) (falls h (d ∷ cs) (b ∷ ts)) r))
      (falling_near d cs b ts (rest_small c (d ∷ cs) g) (and_r (nat_le (d + 7) c) (falls h (d ∷ cs) (b ∷ ts)) r))))
