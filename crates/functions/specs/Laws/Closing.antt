-- From a word to the bound: a fixed-point number p that is a fraction to a few units, and the float that is packed from p, make `Within`. Assumes nothing.
use Rattle.std.specs.Prelude.{◌≡◌, ℕ, ◌+◌, ◌*◌, ◌^◌, ◌≤◌, Bool, true, false, cond, T, from_bits, refl, Float}
use Rattle.std.proofs.Common.{sym, ap, ◌∙◌, subst, true≢false, mul-le-mul_right, le_of_mul-le-mul_right, mul_assoc, arith, pow-add, pow_pos}
use Rattle.std.proofs.Math.Nat.{eq_of_mul-eq-mul_right}
use Rattle.std.specs.Float.{nan, inf, fin, binary64}
use Rattle.std.specs.Float.Ieee.{neg, unlike}
use Rattle.std.specs.Float.Ieee.Exact.{HasValue}
use Rattle.std.specs.Float.Ieee.Scale.{finite}
use Rattle.std.specs.Float.Ieee.Positive.{num, den, value→cross}
use Rattle.functions.specs.Fraction.{Fraction, Within, FiniteWithin, negated, value_of}
use Rattle.functions.specs.Words.{packed}
use Rattle.functions.specs.Laws.Packed.{Cut}

-- p is X in units of 2 ^ -t, to s of them
pub record Fixed (t s p : ℕ) (X : Fraction) : Type 0 where
  pub low : p * X.den + X.minus * 2 ^ t ≤ X.plus * 2 ^ t + s * X.den
  pub high : X.plus * 2 ^ t ≤ (p + s) * X.den + X.minus * 2 ^ t

-- a / c is p in those units, to w of them
pub within : (t s w p a c : ℕ) (X : Fraction) → a * 2 ^ t ≤ (p + w) * c → p * c ≤ a * 2 ^ t + w * c → Fixed t s p X → (s + w) * 2 ^ 40 ≤ 2 ^ t → Within 40 (record { plus = a; minus = 0; den = c }) X
within t s w p a c X l h f e = record {
  above = le_of_mul-le-mul_right (up X.plus X.minus X.den (2 ^ t) (2 ^ 40) (mul-le-mul_right (c * 2 ^ 40) f.low) (mul-le-mul_right (X.den * 2 ^ 40) l) (mul-le-mul_right (X.den * c) e)) (pow_pos t);
  below = le_of_mul-le-mul_right (down X.plus X.minus X.den (2 ^ t) (2 ^ 40) (mul-le-mul_right (c * 2 ^ 40) f.high) (mul-le-mul_right (X.den * 2 ^ 40) h) (mul-le-mul_right (X.den * c) e)) (pow_pos t);
}
  where
    up : (plus minus H P Q : ℕ) → (p * H + minus * P) * (c * Q) ≤ (plus * P + s * H) * (c * Q) → a * P * (H * Q) ≤ (p + w) * c * (H * Q) → (s + w) * Q * (H * c) ≤ P * (H * c)
        → (a * H + minus * c) * Q * P ≤ ((plus * c + 0 * H) * Q + c * H) * P
    up plus minus H P Q x y z = omega arith

    down : (plus minus H P Q : ℕ) → plus * P * (c * Q) ≤ ((p + s) * H + minus * P) * (c * Q) → p * c * (H * Q) ≤ (a * P + w * c) * (H * Q) → (s + w) * Q * (H * c) ≤ P * (H * c)
        → (plus * c + 0 * H) * Q * P ≤ ((a * H + minus * c) * Q + c * H) * P
    down plus minus H P Q x y z = omega arith

-- a / c is v in those units, and v is p to 1024
pub within_cut : (t s p v a c : ℕ) (X : Fraction) → a * 2 ^ t ≡ v * c → v ≤ p + 1024 → p ≤ v + 1024 → Fixed t s p X → (s + 1024) * 2 ^ 40 ≤ 2 ^ t → Within 40 (record { plus = a; minus = 0; den = c }) X
within_cut t s p v a c X e l h f w =
    within t s 1024 p a c X (subst (λ (n : ℕ). n ≤ (p + 1024) * c) (sym e) (mul-le-mul_right c l)) (subst (λ (n : ℕ). p * c ≤ n + 1024 * c) (sym e) (go (mul-le-mul_right c h))) f w
  where
    go : p * c ≤ (v + 1024) * c → p * c ≤ v * c + 1024 * c
    go x = omega arith

-- the unit of a float that is packed at b is 2 ^ -u where u + b is 1085
pub unit_of_lem : (u b v x z : ℕ) → u + b ≡ 1085 → x * 2 ^ 1085 ≡ v * 2 ^ b * z → x * 2 ^ u ≡ v * z
unit_of_lem u b v x z s e =
    eq_of_mul-eq-mul_right (2 ^ b) (pow_pos b) (x * 2 ^ u) (v * z)
    (mul_assoc x (2 ^ u) (2 ^ b) ∙ ap (λ (n : ℕ). x * n) (sym (pow-add 2 u b) ∙ ap (λ (n : ℕ). 2 ^ n) s) ∙ e ∙ swap v (2 ^ b) z)
  where
    swap : (a b c : ℕ) → a * b * c ≡ a * c * b
    swap a b c = omega arith

-- so a float that is packed from p is within the bound of what p is fixed to
pub packed_within : (u b s p : ℕ) (X : Fraction) → u + b ≡ 1085 → Cut b p (from_bits binary64 (packed b p)) → Fixed u s p X → (s + 1024) * 2 ^ 40 ≤ 2 ^ u
    → Within 40 (record { plus = num (from_bits binary64 (packed b p)); minus = 0; den = den (from_bits binary64 (packed b p)) }) X
packed_within u b s p X e c f w =
    let r = from_bits binary64 (packed b p) in
    within_cut u s p c.v (num r) (den r) X (unit_of_lem u b c.v (num r) (den r) e (value→cross r (c.v * 2 ^ b) (2 ^ 1085) c.value)) c.low c.high f w

-- ---- signs
pub within_negated : (s : Bool) (t : ℕ) (a b : Fraction) → Within t a b → Within t (negated s a) (negated s b)
within_negated false t a b w = w
within_negated true t a b w = record {
  above = flip (b.plus * a.den) (a.minus * b.den) (a.plus * b.den) (b.minus * a.den) (2 ^ t) (a.den * b.den) w.below;
  below = flip (a.plus * b.den) (b.minus * a.den) (b.plus * a.den) (a.minus * b.den) (2 ^ t) (a.den * b.den) w.above;
}
  where
    flip : (x y z w q c : ℕ) → (x + y) * q ≤ (z + w) * q + c → (y + x) * q ≤ (w + z) * q + c
    flip x y z w q c h = omega arith

pub negated_twice : (s t : Bool) (a : Fraction) → negated (unlike s t) a ≡ negated s (negated t a)
negated_twice true true a = refl
negated_twice true false a = refl
negated_twice false true a = refl
negated_twice false false a = refl

-- a float whose sign is turned
value_turned : (r : Float) (s : Bool) (a c : ℕ) → HasValue r false a c → value_of (cond s (neg r) r) ≡ negated s (record { plus = num r; minus = 0; den = den r })
unfolding neg
value_turned nan s a c v = absurd v
value_turned (inf t) s a c v = absurd v
value_turned (fin true m e) s a c v = absurd (true≢false v.0)
value_turned (fin false m e) true a c v = refl
value_turned (fin false m e) false a c v = refl

number_turned : (r : Float) (s : Bool) (a c : ℕ) → HasValue r false a c → T (finite (cond s (neg r) r))
unfolding neg
number_turned nan s a c v = absurd v
number_turned (inf t) s a c v = absurd v
number_turned (fin t m e) true a c v = tt
number_turned (fin t m e) false a c v = tt

-- is a finite number, and as near to X as its fraction
pub turned_within : (t : ℕ) (r : Float) (s : Bool) (a c : ℕ) (X : Fraction) → HasValue r false a c → Within t (negated s (record { plus = num r; minus = 0; den = den r })) X → FiniteWithin t (cond s (neg r) r) X
turned_within t r s a c X v w = record { number = number_turned r s a c v; close = subst (λ (f : Fraction). Within t f X) (sym (value_turned r s a c v)) w }
