-- Floats that binary64 holds: each is what its value rounds to, so 0.0 taken off or added leaves it; a difference that is above zero does not round to zero; and which results are no NaN.
-- Clients cite the laws marked pub. Assumes nothing.
use Rattle.std.specs.Prelude.{ℕ, zero, suc, ◌+◌, ◌-◌, ◌*◌, ◌/◌, ◌^◌, ◌≤◌, ◌<◌, ◌≡◌, refl, Bool, true, false, not, ◌&&◌, ◌||◌, cond, T, ltb, eqb, ℤ, pos, negsuc, Float}
use Rattle.std.proofs.Common.{sym, ap, ◌∙◌, subst, ⊎_elim, le_refl, add-zero, zero-add, sub-le, le_trans, le_of_eq, le_of_lt, zero-lt-suc, zero-mul, one-mul, mul-one, mul_comm, mul_assoc, mul_right_comm, mul-pos, mul-le-mul_right, arith, ltb-true, ltb-false, le-ltb, ne_eqb, eqb-true, ltb→lt, lt→ltb, pow_pos}
use Rattle.std.specs.Bool.{beq}
use Rattle.std.proofs.Math.Nat.{sub-zero}
use Rattle.std.specs.Float.{nan, inf, fin, Format}
use Rattle.std.specs.Float.Ieee.{binary64, prec, emax, low, up, down, unlike, size, odd, units, round, neg, sum, add, sub, mul, lt, eq, le, below, fits, is_nan, of_bits}
use Rattle.std.specs.Float.Ieee.Fits.{down_pos, round_is}
use Rattle.std.specs.Float.Ieee.Nearest.{closest}
use Rattle.std.specs.Float.Ieee.Order.{round_mono}
use Rattle.std.specs.Float.Ieee.Positive.{positive, first_pos, between}
use Rattle.std.specs.Float.Ieee.Scale.{finite, round_same}
use Rattle.num.specs.Floats.{nought}
use Rattle.num.specs.Laws.Held as held
use Rattle.num.specs.Laws.Held.{Grid, grid, gap}
use Rattle.num.specs.Laws.Less.{no, lt_self, lt_trans, lt_either}
use Rattle.models.specs.Signs.{◌⊕◌, ◌⊖◌, ◌⊗◌}

-- ---- the order

-- what is above a number that is not below 0.0 is above 0.0
pub from_zero : (q z : Float) → lt q nought ≡ false → lt q z ≡ true → lt nought z ≡ true
unfolding of_bits
from_zero q z h p = ⊎_elim (λ u. no (sym h ∙ u)) (λ u. u) (lt_either q z nought tt p)

-- a test that would be contradicted is false
pub refuted : (b : Bool) → (b ≡ true → ⊥) → b ≡ false
refuted true f = absurd (f refl)
refuted false f = refl

both_false : (a b : Bool) → a ≡ false → b ≡ false → a || b ≡ false
both_false a b p q = rw (p, q)

no_tie : (a b : ℕ) (u : Bool) → (b ≡ a → ⊥) → (eqb b a && u) ≡ false
no_tie a b u f = rw (ne_eqb b a f)

-- of two numbers of which one is below the other, the two are not equal
lt_eq : (x y : Float) → lt x y ≡ true → eq y x ≡ false
unfolding lt eq
lt_eq nan y p = no p
lt_eq (inf s) nan p = no p
lt_eq (inf true) (inf true) p = no p
lt_eq (inf true) (inf false) p = refl
lt_eq (inf false) (inf t) p = no p
lt_eq (inf s) (fin t n d) p = refl
lt_eq (fin s m e) nan p = no p
lt_eq (fin s m e) (inf t) p = refl
lt_eq (fin s m e) (fin t n d) p = go s t p
  where
    a : ℕ
    a = m * up e * down d

    b : ℕ
    b = n * up d * down e

    go : (s t : Bool) → below s a t b ≡ true → (eqb b a && (beq t s || eqb b 0)) ≡ false
    go false false q = no_tie a b _ (λ h. absurd (omega (arith, ltb-true a b q)))
    go false true q = no q
    go true true q = no_tie a b _ (λ h. absurd (omega (arith, ltb-true b a q)))
    go true false q = tie (eqb b a) (eqb b 0) (λ h. eqb-true b a h) (λ h. eqb-true b 0 h) (ltb-true 0 (a + b) q)
      where
        tie : (u v : Bool) → (u ≡ true → b ≡ a) → (v ≡ true → b ≡ 0) → 0 < a + b → (u && v) ≡ false
        tie true true h k l = absurd (omega (arith, h refl, k refl))
        tie true false h k l = refl
        tie false v h k l = refl

-- of two numbers of which one is below the other, the other is not at most the one
pub lt_le : (x y : Float) → lt x y ≡ true → le y x ≡ false
unfolding le
lt_le x y p = both_false (lt y x) (eq y x) (refuted (lt y x) (λ q. no (sym (lt_self x) ∙ lt_trans x y x p q))) (lt_eq x y p)

-- ---- a float that fits is what its value rounds to

-- k times a float's size is as many times its smallest values, over a denominator k times as large
pub scaled : (f : Format) (m : ℕ) (e : ℤ) (g : Grid f m e) (k : ℕ) → m * up e * k * 2 ^ low f ≡ g.q * 2 ^ g.j * (down e * k)
scaled f m e g k = mul_right_comm (m * up e) k (2 ^ low f) ∙ ap (λ (z : ℕ). z * k) g.is ∙ mul_assoc (g.q * 2 ^ g.j) (down e) k

-- a factor d times a factor e, together
pub over : (x d e : ℕ) → x * d * e ≡ x * (e * d)
over x d e = mul_right_comm x d e ∙ mul_assoc x e d

-- a fraction a / c of a float's size rounds to it
pub own : (s : Bool) (m : ℕ) (e : ℤ) (a c : ℕ) → T (fits binary64 (fin s m e)) → 0 < c → a * down e ≡ m * up e * c → round binary64 s a c ≡ fin s m e
own s m e a c h C v = round_same binary64 s a c (m * up e) (down e) C (down_pos e) v ∙ held.own binary64 s m e h

-- whether a float fits does not turn on its sign
pub other_sign : (s t : Bool) (m : ℕ) (e : ℤ) → T (fits binary64 (fin s m e)) → T (fits binary64 (fin t m e))
unfolding fits
other_sign s t zero e h = h
other_sign s t (suc m) e h = h

-- ---- 0.0 taken off and added

-- less 0.0 a float stays, a zero of either sign too
pub less_zero : (x : Float) → T (fits binary64 x) → x ⊖ nought ≡ x
unfolding sub add sum neg of_bits
less_zero nan h = refl
less_zero (inf s) h = refl
less_zero (fin s m e) h = go s h
  where
    a : ℕ
    a = m * up e * 1

    z : 0 * 1 * down e ≡ 0
    z = zero-mul (down e)

    same : (u : Bool) → T (fits binary64 (fin u m e)) → round binary64 u a (down e * 1) ≡ fin u m e
    same u k = own u m e a (down e * 1) k (mul-pos (down_pos e) (pow_pos 0)) (over (m * up e) 1 (down e))

    go : (u : Bool) → T (fits binary64 (fin u m e)) → sum binary64 u a true (0 * 1 * down e) (down e * 1) ≡ fin u m e
    go true k = rw (z, add-zero a) (same true k)
    go false k = rw (z, le-ltb a 0 (omega arith), sub-zero a) (same false k)

-- 0.0 added to a float above it leaves it
pub zero_plus : (x : Float) → T (fits binary64 x) → lt nought x ≡ true → nought ⊕ x ≡ x
unfolding add sum lt of_bits
zero_plus nan h p = refl
zero_plus (inf s) h p = refl
zero_plus (fin true m e) h p = no p
zero_plus (fin false m e) h p =
    rw (zero-mul (down e), zero-add (m * up e * 1))
    (own false m e (m * up e * 1) (1 * down e) h (mul-pos (pow_pos 0) (down_pos e)) (mul_assoc (m * up e) 1 (down e)))

-- a finite number less itself
pub self_zero : (x : Float) → T (finite x) → x ⊖ x ≡ nought
unfolding sub add sum neg of_bits fits
self_zero nan f = absurd f
self_zero (inf s) f = absurd f
self_zero (fin s m e) f = go s
  where
    a : ℕ
    a = m * up e * down e

    nothing : a - a ≡ 0
    nothing = omega arith

    none : round binary64 false 0 (down e * down e) ≡ fin false 0 (pos 0)
    none = own false 0 (pos 0) 0 (down e * down e) tt (mul-pos (down_pos e) (down_pos e)) (sym (zero-mul (down e * down e)))

    go : (s : Bool) → sum binary64 s a (not s) a (down e * down e) ≡ fin false 0 (pos 0)
    go true = rw (le-ltb a a (le_refl a), nothing) none
    go false = rw (le-ltb a a (le_refl a), nothing) none

-- what is not below 0.0 and carries a minus is a zero
pub zero_size : (m : ℕ) (e : ℤ) → lt (fin true m e) nought ≡ false → m * up e ≡ 0
unfolding lt of_bits
zero_size m e h = omega (arith, ltb-false 0 (m * up e * 1 + 0 * 1 * down e) h, mul-one (m * up e))

-- ---- what rounds to a finite number

odd_finite : (d : ℕ) (s : Bool) (q k l : ℕ) → T (finite (odd d s q k l))
unfolding odd
odd_finite d s zero k l = tt
odd_finite d s (suc q) k l = tt

-- what rounds to at most a finite number rounds to one
pub round_finite : (f : Format) (s : Bool) (a c : ℕ) (s' : Bool) (m : ℕ) (e : ℤ) → T (le (round f false a c) (fin s' m e)) → T (finite (round f s a c))
unfolding units le
round_finite f s a c s' m e h = rw (round_is f s a c) (go (ltb (q * 2 ^ k) (2 ^ (low f + suc (emax f)))) (rw (round_is f false a c) at h))
  where
    k : ℕ
    k = size (a * 2 ^ low f / c) - prec f

    q : ℕ
    q = closest (a * 2 ^ low f) (c * 2 ^ k)

    go : (b : Bool) → T (le (cond b (odd (suc (prec f)) false q k (low f)) (inf false)) (fin s' m e)) → T (finite (cond b (odd (suc (prec f)) s q k (low f)) (inf s)))
    go true h = odd_finite (suc (prec f)) s q k (low f)
    go false h = absurd h

-- a fraction that is at most a float that fits rounds to at most that float
pub round_under : (a c m : ℕ) (e : ℤ) → T (fits binary64 (fin false m e)) → 0 < c → a * down e ≤ m * up e * c → T (le (round binary64 false a c) (fin false m e))
round_under a c m e F C h =
    subst (λ (z : Float). T (le (round binary64 false a c) z)) (own false m e (m * up e) (down e) F (down_pos e) refl)
    (round_mono binary64 a c (m * up e) (down e) C (down_pos e) h)

-- ---- above zero

-- what is above 0.0 and finite is `positive`
pub positive_of : (x : Float) → lt nought x ≡ true → T (finite x) → T (positive x)
unfolding lt of_bits
positive_of nan p f = absurd f
positive_of (inf s) p f = absurd f
positive_of (fin true m e) p f = no p
positive_of (fin false m e) p f =
    lt→ltb 0 m (first_pos m (up e) (first_pos (m * up e) 1 (subst (λ (k : ℕ). k < m * up e * 1) (zero-mul (down e)) (ltb-true (0 * 1 * down e) (m * up e * 1) p))))

-- 2 ^ -1074
abbrev least : Float
least = fin false 1 (negsuc 1073)

-- at least 2 ^ -1074 and at most a finite number
round_positive : (a c m : ℕ) (e : ℤ) → T (fits binary64 (fin false (suc m) e)) → 0 < c → c ≤ a * 2 ^ 1074 → a * down e ≤ suc m * up e * c → T (positive (round binary64 false a c))
round_positive a c m e F C l h =
    between least (round binary64 false a c) (fin false (suc m) e) tt (lt→ltb 0 (suc m) (zero-lt-suc m))
    (subst (λ (z : Float). T (le z (round binary64 false a c))) (own false 1 (negsuc 1073) 1 (2 ^ 1074) (unfold fits in tt) (pow_pos 1074) refl)
    (round_mono binary64 1 (2 ^ 1074) a c (pow_pos 1074) C (le_trans (le_of_eq (one-mul c)) l)))
    (round_under a c (suc m) e F C h)

-- a number less one that is below it and not below 0.0: above zero, and finite
pub difference : (x y : Float) → T (fits binary64 x) → T (fits binary64 y) → T (positive x) → lt y nought ≡ false → lt y x ≡ true → T (positive (x ⊖ y))
unfolding lt sub add sum neg of_bits
difference nan y F G p z l = absurd p
difference (inf s) y F G p z l = absurd p
difference (fin true m e) y F G p z l = absurd p
difference (fin false zero e) y F G p z l = absurd p
difference (fin false (suc m) e) nan F G p z l = no l
difference (fin false (suc m) e) (inf true) F G p z l = no (sym z)
difference (fin false (suc m) e) (inf false) F G p z l = no l
difference (fin false (suc m) e) (fin s n d) F G p z l = go s G z l
  where
    a : ℕ
    a = suc m * up e * down d

    b : ℕ
    b = n * up d * down e

    c : ℕ
    c = down e * down d

    g : Grid binary64 (suc m) e
    g = grid binary64 false (suc m) e F

    w : ℕ
    w = g.q * 2 ^ g.j

    a_is : a * 2 ^ 1074 ≡ w * c
    a_is = scaled binary64 (suc m) e g (down d)

    top_is : a * down e ≡ suc m * up e * c
    top_is = over (suc m * up e) (down d) (down e)

    far : (k v : ℕ) → k < a → k * 2 ^ 1074 ≡ v * c → T (positive (round binary64 false (a - k) c))
    far k v h q =
        round_positive (a - k) c m e F (mul-pos (down_pos e) (down_pos d)) (gap a k w v c (2 ^ 1074) (pow_pos 1074) a_is q h)
        (le_trans (mul-le-mul_right (down e) (sub-le a k)) (le_of_eq top_is))

    go : (s : Bool) → T (fits binary64 (fin s n d)) → lt (fin s n d) nought ≡ false → below s b false a ≡ true → T (positive (sum binary64 false a (not s) b c))
    go false G z l =
        let h = grid binary64 false n d G in
        let v = h.q * 2 ^ h.j in
        let b_is : b * 2 ^ 1074 ≡ v * c = scaled binary64 n d h (down e) ∙ ap (λ (k : ℕ). v * k) (mul_comm (down d) (down e)) in
        let q = ltb-true b a l in
        rw (le-ltb a b (le_of_lt q)) (far b v q b_is)
    go true G z l =
        let q : b ≡ 0 = ap (λ (k : ℕ). k * down e) (zero_size n d z) ∙ zero-mul (down e) in
        let r : 0 < a = omega (arith, ltb-true 0 (b + a) l) in
        rw (q, add-zero a, ← sub-zero a) (far 0 0 r (zero-mul (2 ^ 1074) ∙ sym (zero-mul c)))

-- ---- what is no NaN

-- a finite number
pub finite_number : (x : Float) → T (finite x) → is_nan x ≡ false
unfolding is_nan
finite_number nan f = absurd f
finite_number (inf s) f = absurd f
finite_number (fin s m e) f = refl

-- either of two numbers
pub cond_number : (b : Bool) (x y : Float) → is_nan x ≡ false → is_nan y ≡ false → is_nan (cond b x y) ≡ false
cond_number true x y h k = h
cond_number false x y h k = k

units_number : (f : Format) (s : Bool) (q k : ℕ) → is_nan (units f s q k) ≡ false
unfolding units is_nan
units_number f s q k =
    cond_number (ltb (q * 2 ^ k) (2 ^ (low f + suc (emax f)))) (odd (suc (prec f)) s q k (low f)) (inf s) (finite_number (odd (suc (prec f)) s q k (low f)) (odd_finite (suc (prec f)) s q k (low f))) refl

-- what is rounded
round_number : (f : Format) (s : Bool) (a c : ℕ) → is_nan (round f s a c) ≡ false
round_number f s a c = rw (round_is f s a c) (units_number f s _ _)

sum_number : (f : Format) (s : Bool) (a : ℕ) (t : Bool) (b c : ℕ) → is_nan (sum f s a t b c) ≡ false
unfolding sum
sum_number f s a t b c =
    cond_number (beq s t) _ _ (round_number f s (a + b) c) (cond_number (ltb a b) _ _ (round_number f t (b - a) c) (round_number f (s && ltb b a) (a - b) c))

-- a sum with a finite number
pub add_number : (x y : Float) → is_nan x ≡ false → T (finite y) → is_nan (x ⊕ y) ≡ false
unfolding add is_nan
add_number nan y h f = no (sym h)
add_number (inf s) nan h f = absurd f
add_number (inf s) (inf t) h f = absurd f
add_number (inf s) (fin t n d) h f = refl
add_number (fin s m e) nan h f = absurd f
add_number (fin s m e) (inf t) h f = absurd f
add_number (fin s m e) (fin t n d) h f = sum_number binary64 s (m * up e * down d) t (n * up d * down e) (down e * down d)

-- a product with a finite number above zero
pub mul_number : (x y : Float) → is_nan x ≡ false → T (positive y) → is_nan (x ⊗ y) ≡ false
unfolding mul is_nan
mul_number nan y h p = no (sym h)
mul_number (inf s) nan h p = absurd p
mul_number (inf s) (inf t) h p = absurd p
mul_number (inf s) (fin true n d) h p = absurd p
mul_number (inf s) (fin false n d) h p = rw (ne_eqb n 0 (λ z. absurd (omega (arith, ltb→lt 0 n p)))) refl
mul_number (fin s m e) nan h p = absurd p
mul_number (fin s m e) (inf t) h p = absurd p
mul_number (fin s m e) (fin true n d) h p = absurd p
mul_number (fin s m e) (fin false n d) h p = round_number binary64 (unlike s false) (m * up e * (n * up d)) (down e * down d)
