-- The float that is packed from a fixed-point number p: its value is p, rounded, in the unit that the field says. Assumes nothing.
use Rattle.std.specs.Prelude.{◌≡◌, ℕ, zero, suc, ◌+◌, ◌-◌, ◌*◌, ◌/◌, ◌%◌, ◌^◌, ◌<◌, ◌≤◌, Bool, true, false, cond, not, T, ◌==◌, nat_le, refl, Float}
use Rattle.std.proofs.Common.{sym, ap, ◌∙◌, subst, mul-le-mul_right, mul-le-mul_left, mul-lt-mul_of_pos_right, le_of_mul-le-mul_right, sub-add_cancel, le_trans, arith, leb→le, lit<, lit≤, pow-add, pow_pos, le-leb}
use Rattle.std.proofs.Math.Nat.{eq_of_mul-eq-mul_right}
use Rattle.std.proofs.Math.Dec.{nleb→lt, eqb-suc-zero}
use Rattle.std.specs.Int.Count.{count_leading_zeros}
use Rattle.std.proofs.lemmas.Nat.{leading_top, leading_le}
use Rattle.std.specs.Float.{nan, inf, fin, binary64}
use Rattle.std.specs.Float.Ieee.{neg, odd, of_fields, of_bits, nan_bits, is_nan, up, down}
use Rattle.std.specs.Float.Ieee.Bits.{nan_bits_is}
use Rattle.std.proofs.lemmas.Bool.{lt-leb}
use Rattle.std.specs.Float.Ieee.Exact.{HasValue}
use Rattle.functions.specs.Words.{packed, rounded, Room}
use Rattle.functions.specs.Laws.Bits64.{of_bits_is, put_together, no_nan}

-- r is v * 2 ^ b / 2 ^ 1085, v being p to 1024
pub record Cut (b p : ℕ) (r : Float) : Type 0 where
  pub v : ℕ
  pub low : v ≤ p + 1024
  pub high : p ≤ v + 1024
  pub value : HasValue r false (v * 2 ^ b) (2 ^ 1085)

-- from one fraction to another of the same size
rescale : (x : Float) (s : Bool) (w l a c : ℕ) → 0 < l → a * l ≡ w * c → HasValue x s w l → HasValue x s a c
rescale nan s w l a c p h v = v
rescale (inf t) s w l a c p h v = v
rescale (fin t m e) s w l a c p h v = (v.0, eq_of_mul-eq-mul_right l p (m * up e * c) (a * down e) (go (m * up e) (down e) v.1))
  where
    go : (x y : ℕ) → x * l ≡ w * y → x * c * l ≡ a * y * l
    go x y e = omega (arith, ap (λ (n : ℕ). n * c) e, ap (λ (n : ℕ). n * y) h)

-- ---- the digits of p, whose leading one stands at the top of a word after z places
pub record Leads (p z : ℕ) : Type 0 where
  pub least : 2 ^ 63 ≤ p * 2 ^ z
  pub most : p * 2 ^ z < 2 ^ 64

pub leads : (p : ℕ) → 0 < p → p < 2 ^ 64 → Leads p (count_leading_zeros 64 p)
leads p h g =
    let t = leading_top 64 p h g in
    let z = count_leading_zeros 64 p in
    let e : 2 ^ t.0 * 2 ^ z ≡ 2 ^ 63 = sym (pow-add 2 t.0 z) ∙ ap (λ (n : ℕ). 2 ^ n) (up_to z t.0 t.1) in
    let f : 2 ^ suc t.0 * 2 ^ z ≡ 2 ^ 64 = sym (pow-add 2 (suc t.0) z) ∙ ap (λ (n : ℕ). 2 ^ n) (past z t.0 t.1) in
    record {
      least = subst (λ (n : ℕ). n ≤ p * 2 ^ z) e (mul-le-mul_right (2 ^ z) t.2);
      most = subst (λ (n : ℕ). p * 2 ^ z < n) f (mul-lt-mul_of_pos_right t.3 (pow_pos z));
    }
  where
    up_to : (z j : ℕ) → z + suc j ≡ 64 → j + z ≡ 63
    up_to z j e = omega arith

    past : (z j : ℕ) → z + suc j ≡ 64 → suc j + z ≡ 64
    past z j e = omega arith

abbrev pub digits : ℕ → ℕ
digits t = (t / 2 ^ 10 + 1) / 2

digits_least : (t : ℕ) → 2 ^ 63 ≤ t → 2 ^ 52 ≤ digits t
digits_least t h = omega arith

digits_most : (t : ℕ) → t < 2 ^ 64 → digits t ≤ 2 ^ 53
digits_most t h = omega arith

digits_low : (t : ℕ) → digits t * 2 ^ 11 ≤ t + 2 ^ 10
digits_low t = omega arith

digits_high : (t : ℕ) → t ≤ digits t * 2 ^ 11 + 2 ^ 10
digits_high t = omega arith

-- up to 11 places: v has as many digits as p, and at most 1024 are lost or gained
few : (p z : ℕ) → z ≤ 11 → (digits (p * 2 ^ z) * 2 ^ (11 - z) ≤ p + 1024) × (p ≤ digits (p * 2 ^ z) * 2 ^ (11 - z) + 1024)
few p z h = (
  le_of_mul-le-mul_right (down (2 ^ z) (2 ^ (11 - z)) (digits (p * 2 ^ z)) eleven (pow_pos z) (digits_low (p * 2 ^ z))) (pow_pos z),
  le_of_mul-le-mul_right (rise (2 ^ z) (2 ^ (11 - z)) (digits (p * 2 ^ z)) eleven (pow_pos z) (digits_high (p * 2 ^ z))) (pow_pos z),
)
  where
    eleven : 2 ^ (11 - z) * 2 ^ z ≡ 2 ^ 11
    eleven = sym (pow-add 2 (11 - z) z) ∙ ap (λ (n : ℕ). 2 ^ n) (sub-add_cancel h)

    down : (Z E m : ℕ) → E * Z ≡ 2 ^ 11 → 0 < Z → m * 2 ^ 11 ≤ p * Z + 2 ^ 10 → m * E * Z ≤ (p + 1024) * Z
    down Z E m e g f = omega (arith, ap (λ (n : ℕ). m * n) e)

    rise : (Z E m : ℕ) → E * Z ≡ 2 ^ 11 → 0 < Z → p * Z ≤ m * 2 ^ 11 + 2 ^ 10 → p * Z ≤ (m * E + 1024) * Z
    rise Z E m e g f = omega (arith, ap (λ (n : ℕ). m * n) e)

-- more places: every digit of p is kept
many : (p z : ℕ) → 12 ≤ z → digits (p * 2 ^ z) ≡ p * 2 ^ (z - 11)
many p z h =
    ap digits (ap (λ (n : ℕ). p * n) (ap (λ (n : ℕ). 2 ^ n) (sym (sub-add_cancel h)) ∙ pow-add 2 (z - 12) 12))
    ∙ go p (2 ^ (z - 12))
    ∙ ap (λ (n : ℕ). p * n) (sym (pow-add 2 (z - 12) 1) ∙ ap (λ (n : ℕ). 2 ^ n) (one z h))
  where
    four : (t : ℕ) → digits (t * 2 ^ 12) ≡ t * 2
    four t = omega arith

    go : (a b : ℕ) → digits (a * (b * 2 ^ 12)) ≡ a * (b * 2 ^ 1)
    go a b = ap digits (left a b) ∙ four (a * b) ∙ right a b
      where
        left : (a b : ℕ) → a * (b * 2 ^ 12) ≡ a * b * 2 ^ 12
        left a b = omega arith

        right : (a b : ℕ) → a * b * 2 ≡ a * (b * 2 ^ 1)
        right a b = omega arith

    one : (z : ℕ) → 12 ≤ z → z - 12 + 1 ≡ z - 11
    one z h = omega arith

-- ---- the float
module _ (b p z : ℕ) (l : Leads p z) (least : z ≤ b) (most : b - z + digits (p * 2 ^ z) / 2 ^ 53 ≤ 2045) where
  float : HasValue (of_bits binary64 ((b - z) * 2 ^ 52 + digits (p * 2 ^ z))) false (digits (p * 2 ^ z) * 2 ^ (b - z)) (2 ^ 1074)
  float = put_together (b - z) (digits (p * 2 ^ z)) (digits_least (p * 2 ^ z) l.least) (digits_most (p * 2 ^ z) l.most) most

  two : 2 ^ b ≡ 2 ^ (b - z) * 2 ^ z
  two = ap (λ (n : ℕ). 2 ^ n) (sym (sub-add_cancel least)) ∙ pow-add 2 (b - z) z

  at : (v : ℕ) → v * 2 ^ z ≡ digits (p * 2 ^ z) * 2 ^ 11 → HasValue (of_bits binary64 ((b - z) * 2 ^ 52 + digits (p * 2 ^ z))) false (v * 2 ^ b) (2 ^ 1085)
  at v e =
      rescale (of_bits binary64 ((b - z) * 2 ^ 52 + digits (p * 2 ^ z))) false (digits (p * 2 ^ z) * 2 ^ (b - z)) (2 ^ 1074) (v * 2 ^ b) (2 ^ 1085) (pow_pos 1074)
      (ap (λ (n : ℕ). v * n * 2 ^ 1074) two ∙ swap v (2 ^ (b - z)) (2 ^ z) (2 ^ 1074) ∙ ap (λ (n : ℕ). n * (2 ^ (b - z) * 2 ^ 1074)) e ∙ back (digits (p * 2 ^ z)) (2 ^ 11) (2 ^ (b - z)) (2 ^ 1074)) float
    where
      swap : (a c d e : ℕ) → a * (c * d) * e ≡ a * d * (c * e)
      swap a c d e = omega arith

      back : (a c d e : ℕ) → a * c * (d * e) ≡ a * d * (c * e)
      back a c d e = omega arith

  pub cut_at : Cut b p (of_bits binary64 ((b - z) * 2 ^ 52 + digits (p * 2 ^ z)))
  cut_at = go (nat_le z 11) (leb→le z 11) (nleb→lt z 11)
    where
      go : (t : Bool) → (T t → z ≤ 11) → (T (not t) → 11 < z) → Cut b p (of_bits binary64 ((b - z) * 2 ^ 52 + digits (p * 2 ^ z)))
      go true y n =
          let h = y tt in
          let f = few p z h in
          record {
            v = digits (p * 2 ^ z) * 2 ^ (11 - z);
            low = f.0;
            high = f.1;
            value = at (digits (p * 2 ^ z) * 2 ^ (11 - z)) (assoc (digits (p * 2 ^ z)) (2 ^ (11 - z)) (2 ^ z) ∙ ap (λ (n : ℕ). digits (p * 2 ^ z) * n) (sym (pow-add 2 (11 - z) z) ∙ ap (λ (n : ℕ). 2 ^ n) (sub-add_cancel h)));
          }
        where
          assoc : (a c d : ℕ) → a * c * d ≡ a * (c * d)
          assoc a c d = omega arith
      go false y n = record {
        v = p;
        low = omega arith;
        high = omega arith;
        value = at p (sym (ap (λ (n : ℕ). n * 2 ^ 11) (many p z (n tt)) ∙ assoc p (2 ^ (z - 11)) (2 ^ 11) ∙ ap (λ (n : ℕ). p * n) (sym (pow-add 2 (z - 11) 11) ∙ ap (λ (n : ℕ). 2 ^ n) (again z (n tt)))));
      }
        where
          assoc : (a c d : ℕ) → a * c * d ≡ a * (c * d)
          assoc a c d = omega arith

          again : (z : ℕ) → 11 < z → z - 11 + 11 ≡ z
          again z h = omega arith

-- a p of 0 packs to 0
zero_packs : (b : ℕ) → Cut b 0 (of_bits binary64 (packed b 0))
unfolding packed of_bits
zero_packs b = record { v = 0; low = lit≤ tt; high = lit≤ tt; value = (refl, zero_is (2 ^ b) (2 ^ 1085)) }
  where
    zero_is : (x y : ℕ) → 0 * 1 * y ≡ 0 * x * 1
    zero_is x y = omega arith

pub some_packs : (b p : ℕ) → 0 < p → packed b p ≡ (b - count_leading_zeros 64 p) * 2 ^ 52 + digits (p * 2 ^ count_leading_zeros 64 p)
unfolding packed rounded
some_packs b zero h = absurd (none h)
  where
    none : 0 < 0 → ⊥
    none q = omega arith
some_packs b (suc p) h = ap (λ (t : Bool). cond t 0 ((b - count_leading_zeros 64 (suc p)) * 2 ^ 52 + digits (suc p * 2 ^ count_leading_zeros 64 (suc p)))) (eqb-suc-zero p)

-- the whole: every p of a word
pub cut : (b p : ℕ) → p < 2 ^ 64 → Room b p → Cut b p (of_bits binary64 (packed b p))
unfolding rounded
cut b zero h r = zero_packs b
cut b (suc p) h r =
    subst (λ (n : ℕ). Cut b (suc p) (of_bits binary64 n)) (sym (some_packs b (suc p) (omega arith)))
    (cut_at b (suc p) (count_leading_zeros 64 (suc p)) (leads (suc p) (omega arith) h) r.least r.most)

pub packs_number : (b p : ℕ) → p < 2 ^ 64 → Room b p → T (not (nan_bits binary64 (packed b p)))
packs_number b p h r = let c = cut b p h r in no_nan (packed b p) false (c.v * 2 ^ b) (2 ^ 1085) c.value

-- ---- where there is room
rounded_most : (p : ℕ) → p < 2 ^ 64 → rounded p ≤ 2 ^ 53
unfolding rounded count_leading_zeros
rounded_most zero h = lit≤ tt
rounded_most (suc p) h = digits_most (suc p * 2 ^ count_leading_zeros 64 (suc p)) (leads (suc p) (omega arith) h).most

pub room : (b p : ℕ) → 64 ≤ b → b ≤ 2044 → p < 2 ^ 64 → Room b p
room b p l h g = record { least = le_trans (leading_le 64 p) l; most = go (count_leading_zeros 64 p) (rounded p) (rounded_most p g) }
  where
    go : (z m : ℕ) → m ≤ 2 ^ 53 → b - z + m / 2 ^ 53 ≤ 2045
    go z m q = omega arith

-- for a p from 2 ^ 61 and well below 2 ^ 63 there is room at the ends of the format
pub room_wide : (b p : ℕ) → 2 ≤ b → b ≤ 2046 → 2 ^ 61 ≤ p → p + 2 ^ 9 < 2 ^ 63 → Room b p
unfolding rounded
room_wide b p l h lo hi = let r = go (count_leading_zeros 64 p) (leads p (some p lo) (word p hi)) in record { least = r.0; most = r.1 }
  where
    some : (n : ℕ) → 2 ^ 61 ≤ n → 0 < n
    some n q = omega arith

    word : (n : ℕ) → n + 2 ^ 9 < 2 ^ 63 → n < 2 ^ 64
    word n q = omega arith

    one : (t : ℕ) → t + 2 ^ 9 < 2 ^ 63 → b - 1 + digits (t * 2 ^ 1) / 2 ^ 53 ≤ 2045
    one t q = omega arith

    two : (t : ℕ) → t * 2 ^ 2 < 2 ^ 64 → b - 2 + digits (t * 2 ^ 2) / 2 ^ 53 ≤ 2045
    two t q = omega arith

    none : (t : ℕ) → t + 2 ^ 9 < 2 ^ 63 → 2 ^ 63 ≤ t * 2 ^ 0 → ⊥
    none t q r = omega arith

    more : (y : ℕ) → p * 2 ^ (3 + y) < 2 ^ 64 → ⊥
    more y q = far p (2 ^ y) lo (pow_pos y) (subst (λ (n : ℕ). p * n < 2 ^ 64) (pow-add 2 3 y) q)
      where
        far : (t Y : ℕ) → 2 ^ 61 ≤ t → 0 < Y → t * (2 ^ 3 * Y) < 2 ^ 64 → ⊥
        far t Y r s u = big (t * Y) (le_trans (le_trans (lit≤ {m = 2 ^ 61} {n = 2 ^ 61 * 1} tt) (mul-le-mul_left (2 ^ 61) s)) (mul-le-mul_right Y r)) (same t Y u)
          where
            big : (x : ℕ) → 2 ^ 61 ≤ x → 8 * x < 2 ^ 64 → ⊥
            big x v w = omega arith

            same : (t Y : ℕ) → t * (2 ^ 3 * Y) < 2 ^ 64 → 8 * (t * Y) < 2 ^ 64
            same t Y v = omega arith

    go : (z : ℕ) → Leads p z → (z ≤ b) × (b - z + digits (p * 2 ^ z) / 2 ^ 53 ≤ 2045)
    go zero t = absurd (none p hi t.least)
    go (suc zero) t = (omega arith, one p hi)
    go (suc (suc zero)) t = (l, two p t.most)
    go (suc (suc (suc y))) t = absurd (more y (subst (λ (n : ℕ). p * 2 ^ n < 2 ^ 64) (omega arith) t.most))

-- ---- the sign: the same pattern with the top bit is the float negated
infinity : neg (inf false) ≡ inf true
unfolding neg
infinity = refl

none : neg nan ≡ nan
unfolding neg
none = refl

no_digits : (b : ℕ) → packed b 0 < 2 ^ 63
unfolding packed
no_digits b = lit< tt

pub packed_lt : (b p : ℕ) → p < 2 ^ 64 → Room b p → packed b p < 2 ^ 63
unfolding rounded
packed_lt b zero h r = no_digits b
packed_lt b (suc p) h r =
    subst (λ (n : ℕ). n < 2 ^ 63) (sym (some_packs b (suc p) (omega arith)))
    (go (b - count_leading_zeros 64 (suc p)) (digits (suc p * 2 ^ count_leading_zeros 64 (suc p))) r.most (digits_most (suc p * 2 ^ count_leading_zeros 64 (suc p)) (leads (suc p) (omega arith) h).most))
  where
    go : (j m : ℕ) → j + m / 2 ^ 53 ≤ 2045 → m ≤ 2 ^ 53 → j * 2 ^ 52 + m < 2 ^ 63
    go j m q k = omega arith

odd_negated : (d t k l : ℕ) → neg (odd d false t k l) ≡ odd d true t k l
unfolding neg odd
odd_negated d zero k l = refl
odd_negated d (suc t) k l = refl

fields_negated : (x t : ℕ) → neg (of_fields binary64 false x t) ≡ of_fields binary64 true x t
unfolding of_fields
fields_negated zero t = odd_negated 53 t 0 1074
fields_negated (suc x) t = go (suc x == 2047) (t == 0)
  where
    go : (a b : Bool) → neg (cond a (cond b (inf false) nan) (odd 53 false (2 ^ 52 + t) x 1074)) ≡ cond a (cond b (inf true) nan) (odd 53 true (2 ^ 52 + t) x 1074)
    go true true = infinity
    go true false = none
    go false b = odd_negated 53 (2 ^ 52 + t) x 1074

pub bits_negated : (n : ℕ) → n < 2 ^ 63 → neg (of_bits binary64 n) ≡ of_bits binary64 (n + 2 ^ 63)
bits_negated n h =
    ap neg (of_bits_is n ∙ ap (λ (s : Bool). of_fields binary64 s (n % 2 ^ 63 / 2 ^ 52) (n % 2 ^ 52)) (lt-leb (2 ^ 63) n h))
    ∙ fields_negated (n % 2 ^ 63 / 2 ^ 52) (n % 2 ^ 52)
    ∙ sym (of_bits_is (n + 2 ^ 63) ∙ ap (λ (s : Bool). of_fields binary64 s ((n + 2 ^ 63) % 2 ^ 63 / 2 ^ 52) ((n + 2 ^ 63) % 2 ^ 52)) (le-leb (2 ^ 63) (n + 2 ^ 63) (top n))
    ∙ ap (λ (x : ℕ). of_fields binary64 true (x / 2 ^ 52) ((n + 2 ^ 63) % 2 ^ 52)) (rest n) ∙ ap (λ (t : ℕ). of_fields binary64 true (n % 2 ^ 63 / 2 ^ 52) t) (low n))
  where
    top : (n : ℕ) → 2 ^ 63 ≤ n + 2 ^ 63
    top n = omega arith

    rest : (n : ℕ) → (n + 2 ^ 63) % 2 ^ 63 ≡ n % 2 ^ 63
    rest n = omega arith

    low : (n : ℕ) → (n + 2 ^ 63) % 2 ^ 52 ≡ n % 2 ^ 52
    low n = omega arith

negated_number : (x : Float) → T (not (is_nan x)) → T (not (is_nan (neg x)))
unfolding is_nan neg
negated_number nan h = h
negated_number (inf s) h = tt
negated_number (fin s m e) h = tt

pub packs_negated : (b p : ℕ) → p < 2 ^ 64 → Room b p → T (not (nan_bits binary64 (packed b p + 2 ^ 63)))
packs_negated b p h r =
    subst (λ (t : Bool). T (not t)) (ap is_nan (bits_negated (packed b p) (packed_lt b p h r)) ∙ sym (nan_bits_is binary64 (packed b p + 2 ^ 63)))
    (negated_number (of_bits binary64 (packed b p)) (subst (λ (t : Bool). T (not t)) (nan_bits_is binary64 (packed b p)) (packs_number b p h r)))
