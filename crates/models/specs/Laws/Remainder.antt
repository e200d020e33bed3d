-- The remainder `%` of floats that binary64 holds: it is exact, a number from 0.0 up to y is its own remainder by y, and the remainder of any finite number not below 0.0 by a y above 0.0 is such a number.
-- Clients cite rem_below, rem_nought, rem_zero, rem_within and rem_positive. Assumes nothing.
use Rattle.std.specs.Prelude.{ℕ, zero, suc, ◌+◌, ◌-◌, ◌*◌, ◌%◌, ◌^◌, ◌≤◌, ◌<◌, ◌≡◌, refl, Bool, true, false, cond, T, leb, eqb, ℤ, pos, Float}
use Rattle.std.proofs.Common.{sym, ap, ◌∙◌, subst, add-zero, le_trans, le_of_eq, le_of_lt, lt_of_lt_of_le, zero-lt-suc, zero-mul, mul-one, mul_comm, mul_assoc, mul_right_comm, mul-pos, mul-le-mul_right, mul-lt-mul_of_pos_right, lt_of_mul-lt-mul_right, mod-eq_of_lt, mod-lt, mul-div_cancel, lt_of_le_of_lt, arith, leb-true, leb-false, ltb-true, ltb-false, lt-ltb, le-ltb, ne_eqb, eq-eqb, ltb→lt, pow-add, pow_pos}
use Rattle.std.proofs.Math.Nat.{zero-mod, mod-le, mul-mod_left}
use Rattle.std.proofs.Math.Arith.{mod-mul}
use Rattle.std.specs.Float.{nan, inf, fin, binary64}
use Rattle.std.specs.Float.Ieee.{low, up, down, round, rem, lt, below, fits, is_nan, of_bits}
use Rattle.std.specs.Float.Ieee.Exact.{HasValue, round_exact}
use Rattle.std.specs.Float.Ieee.Fits.{up_pos, down_pos}
use Rattle.std.specs.Float.Ieee.Positive.{positive, first_pos}
use Rattle.std.specs.Float.Ieee.Scale.{finite}
use Rattle.num.specs.Floats.{nought}
use Rattle.num.specs.Laws.Less.{no}
use Rattle.num.specs.Laws.Held.{Grid, grid}
use Rattle.models.specs.Laws.Binary64.{scaled, over, own, other_sign, zero_size, round_finite, round_under, positive_of}

-- ---- of a number below the other

-- a size below the other's stays
rem_small : (s t : Bool) (m n : ℕ) (e d : ℤ) → T (fits binary64 (fin s m e)) → m * up e * down d < n * up d * down e → rem binary64 (fin s m e) (fin t n d) ≡ fin s m e
unfolding rem
rem_small s t m n e d h l =
    let some : eqb n 0 ≡ false = ne_eqb n 0 (λ z. none z) in
    rw (some, mod-eq_of_lt l)
    (own s m e (m * up e * down d) (down e * down d) h (mul-pos (down_pos e) (down_pos d)) (over (m * up e) (down d) (down e)))
  where
    none : n ≡ 0 → ⊥
    none z = omega (arith, ap (λ (k : ℕ). k * up d * down e) z, zero-mul (up d), ap (λ (k : ℕ). k * down e) (zero-mul (up d)), zero-mul (down e))

rem_sizes : (s t : Bool) (m n : ℕ) (e d : ℤ) → T (fits binary64 (fin s m e)) → lt (fin s m e) nought ≡ false → below s (m * up e * down d) t (n * up d * down e) ≡ true → rem binary64 (fin s m e) (fin t n d) ≡ fin s m e
rem_sizes false false m n e d F z p = rem_small false false m n e d F (ltb-true _ _ p)
rem_sizes false true m n e d F z p = no p
rem_sizes true t m n e d F z p = rem_small true t m n e d F (small t (ap (λ (k : ℕ). k * down d) (zero_size m e z) ∙ zero-mul (down d)) p)
  where
    small : (t : Bool) → m * up e * down d ≡ 0 → below true (m * up e * down d) t (n * up d * down e) ≡ true → m * up e * down d < n * up d * down e
    small true q p = absurd (omega (arith, ltb-true (n * up d * down e) (m * up e * down d) p))
    small false q p = omega (arith, ltb-true 0 (m * up e * down d + n * up d * down e) p)

-- a number from 0.0 up to y is its own remainder
pub rem_below : (x y : Float) → T (fits binary64 x) → lt x nought ≡ false → lt x y ≡ true → rem binary64 x y ≡ x
unfolding lt rem of_bits
rem_below nan y F z p = no p
rem_below (inf true) y F z p = no (sym z)
rem_below (inf false) nan F z p = no p
rem_below (inf false) (inf t) F z p = no p
rem_below (inf false) (fin t n d) F z p = no p
rem_below (fin s m e) nan F z p = no p
rem_below (fin s m e) (inf t) F z p = refl
rem_below (fin s m e) (fin t n d) F z p = rem_sizes s t m n e d F z p

-- 0.0 has no remainder above 0.0
pub rem_nought : (y : Float) → lt nought (rem binary64 nought y) ≡ false
unfolding lt rem of_bits fits
rem_nought nan = refl
rem_nought (inf t) = refl
rem_nought (fin t n d) = go (eqb n 0)
  where
    none : round binary64 false (0 * 1 * down d % (n * up d * 1)) (1 * down d) ≡ nought
    none = rw (zero-mul (down d), zero-mod (n * up d * 1)) (own false 0 (pos 0) 0 (1 * down d) tt (mul-pos (pow_pos 0) (down_pos d)) (sym (zero-mul (1 * down d))))

    go : (b : Bool) → lt nought (cond b nan (round binary64 false (0 * 1 * down d % (n * up d * 1)) (1 * down d))) ≡ false
    go true = refl
    go false = rw none

-- the remainder by a zero is a NaN
pub rem_zero : (x y : Float) → T (finite y) → lt y nought ≡ false → lt nought y ≡ false → rem binary64 x y ≡ nan
unfolding lt rem of_bits
rem_zero x nan f h k = absurd f
rem_zero x (inf t) f h k = absurd f
rem_zero nan (fin t n d) f h k = refl
rem_zero (inf s) (fin t n d) f h k = refl
rem_zero (fin s m e) (fin t n d) f h k = rw (eq-eqb n 0 (go t n h k))
  where
    go : (t : Bool) (n : ℕ) → lt (fin t n d) nought ≡ false → lt nought (fin t n d) ≡ false → n ≡ 0
    go t zero h k = refl
    go true (suc n) h k = absurd (omega (arith, zero_size (suc n) d h, mul-pos (zero-lt-suc n) (up_pos d)))
    go false (suc n) h k = absurd (omega (arith, ltb-false (0 * 1 * down d) (suc n * up d * 1) k, zero-mul (down d), mul-one (suc n * up d), mul-pos (zero-lt-suc n) (up_pos d)))

-- ---- it is exact

-- whole numbers: a common factor stays out of `%`
whole_mod : (x m c : ℕ) → 0 < m → 0 < c → x * c % (m * c) ≡ x % m * c
whole_mod x m c M C = mod-mul (x * c) M C ∙ rw (mul-div_cancel x C, mul-mod_left x c, add-zero (x % m * c))

-- r has no more than k digits, and zeros after them
record Few (k r : ℕ) : Type 0 where
  q : ℕ
  j : ℕ
  small : q < 2 ^ k
  is : r ≡ q * 2 ^ j

shift : (q i j k : ℕ) → i + j ≡ k → q * 2 ^ k ≡ q * 2 ^ i * 2 ^ j
shift q i j k e = ap (λ (z : ℕ). q * z) (ap (λ (z : ℕ). 2 ^ z) (sym e) ∙ pow-add 2 i j) ∙ sym (mul_assoc q (2 ^ i) (2 ^ j))

mod_few : (k q j r l : ℕ) → q < 2 ^ k → r < 2 ^ k → 0 < r → Few k (q * 2 ^ j % (r * 2 ^ l))
mod_few k q j r l Q R P = go (leb l j) (leb-true l j) (leb-false l j)
  where
    go : (b : Bool) → (b ≡ true → l ≤ j) → (b ≡ false → j < l) → Few k (q * 2 ^ j % (r * 2 ^ l))
    go true y n =
        let h = y refl in
        let i = j - l in
        let e : i + l ≡ j = omega arith in
        record { q = q * 2 ^ i % r; j = l; small = lt_of_lt_of_le (mod-lt (q * 2 ^ i) P) (le_of_lt R); is = rw (shift q i l j e) (whole_mod (q * 2 ^ i) r (2 ^ l) P (pow_pos l)) }
    go false y n =
        let h = n refl in
        let i = l - j in
        let e : i + j ≡ l = omega arith in
        record { q = q % (r * 2 ^ i); j = j; small = lt_of_le_of_lt (mod-le q (r * 2 ^ i)) Q; is = rw (shift r i j l e) (whole_mod q (r * 2 ^ i) (2 ^ j) (mul-pos P (pow_pos i)) (pow_pos j)) }

rem_value : (s : Bool) (m n : ℕ) (e d : ℤ) → T (fits binary64 (fin false m e)) → T (fits binary64 (fin false n d)) → 0 < n
    → HasValue (round binary64 s (m * up e * down d % (n * up d * down e)) (down e * down d)) s (m * up e * down d % (n * up d * down e)) (down e * down d)
rem_value s m n e d F G N =
    round_exact binary64 s (a % b) c w.q w.j C w.small (lt_of_le_of_lt (le_trans (le_of_eq (sym w.is)) (mod-le A B)) g.fine)
    (sym (whole_mod a b L b_pos L_pos) ∙ rw (a_is, b_is) (whole_mod A B c B_pos C) ∙ ap (λ (z : ℕ). z * c) w.is)
  where
    a : ℕ
    a = m * up e * down d

    b : ℕ
    b = n * up d * down e

    c : ℕ
    c = down e * down d

    L : ℕ
    L = 2 ^ low binary64

    L_pos : 0 < L
    L_pos = pow_pos (low binary64)

    C : 0 < c
    C = mul-pos (down_pos e) (down_pos d)

    g : Grid binary64 m e
    g = grid binary64 false m e F

    h : Grid binary64 n d
    h = grid binary64 false n d G

    A : ℕ
    A = g.q * 2 ^ g.j

    B : ℕ
    B = h.q * 2 ^ h.j

    a_is : a * L ≡ A * c
    a_is = scaled binary64 m e g (down d)

    b_is : b * L ≡ B * c
    b_is = scaled binary64 n d h (down e) ∙ ap (λ (z : ℕ). B * z) (mul_comm (down d) (down e))

    b_pos : 0 < b
    b_pos = mul-pos (mul-pos N (up_pos d)) (down_pos e)

    B_pos : 0 < B
    B_pos = first_pos B c (subst (λ (z : ℕ). 0 < z) b_is (mul-pos b_pos L_pos))

    w : Few 53 (A % B)
    w = mod_few 53 g.q g.j h.q h.j g.small h.small (first_pos h.q (2 ^ h.j) B_pos)

-- a value r / c below n * 2 ^ d, where r is below n * up d * u and c is u * down d
value_below : (z : Float) (r c u n : ℕ) (d : ℤ) → 0 < u → c ≡ u * down d → r < n * up d * u → HasValue z false r c → (lt z (fin false n d) ≡ true) × (lt z nought ≡ false)
unfolding lt of_bits
value_below nan r c u n d U e h v = absurd v
value_below (inf s) r c u n d U e h v = absurd v
value_below (fin true m i) r c u n d U e h v = no (sym v.0)
value_below (fin false m i) r c u n d U e h v = (
  lt-ltb (m * up i * down d) (n * up d * down i) (lt_of_mul-lt-mul_right u (subst (λ (z : ℕ). z < n * up d * down i * u) (sym left) (subst (λ (z : ℕ). r * down i < z) (mul_right_comm (n * up d) u (down i)) (mul-lt-mul_of_pos_right h (down_pos i))))),
  le-ltb (m * up i * 1) (0 * 1 * down i) (omega (arith, zero-mul (down i))),
)
  where
    left : m * up i * down d * u ≡ r * down i
    left = mul_assoc (m * up i) (down d) u ∙ ap (λ (z : ℕ). m * up i * z) (mul_comm (down d) u ∙ sym e) ∙ v.1

-- the remainder by a y above 0.0 of what is not below 0.0 is below y and not below 0.0
pub rem_within : (x y : Float) → T (fits binary64 x) → T (fits binary64 y) → T (finite x) → T (positive y) → lt x nought ≡ false → (lt (rem binary64 x y) y ≡ true) × (lt (rem binary64 x y) nought ≡ false)
unfolding lt rem of_bits
rem_within nan y F G f p z = absurd f
rem_within (inf s) y F G f p z = absurd f
rem_within (fin s m e) nan F G f p z = absurd p
rem_within (fin s m e) (inf t) F G f p z = absurd p
rem_within (fin s m e) (fin true n d) F G f p z = absurd p
rem_within (fin false m e) (fin false n d) F G f p z =
    let N : 0 < n = ltb→lt 0 n p in
    rw (ne_eqb n 0 (λ q. absurd (omega arith)))
    (value_below (round binary64 false (m * up e * down d % (n * up d * down e)) (down e * down d)) _ (down e * down d) (down e) n d (down_pos e) refl (mod-lt (m * up e * down d) (mul-pos (mul-pos N (up_pos d)) (down_pos e)))
    (rem_value false m n e d F G N))
rem_within (fin true m e) (fin false n d) F G f p z =
    let some : 0 < n * up d * down e = mul-pos (mul-pos (ltb→lt 0 n p) (up_pos d)) (down_pos e) in
    let l : lt (fin true m e) (fin false n d) ≡ true = lt-ltb 0 (m * up e * down d + n * up d * down e) (omega arith) in
    subst (λ (v : Float). (lt v (fin false n d) ≡ true) × (lt v nought ≡ false)) (sym (rem_below (fin true m e) (fin false n d) F z l)) (l, z)

-- ---- above zero

above_number : (x : Float) → lt nought x ≡ true → is_nan x ≡ false
unfolding lt is_nan of_bits
above_number nan p = no p
above_number (inf s) p = refl
above_number (fin s m e) p = refl

-- a remainder that is a number is finite
rem_finite : (x y : Float) → T (fits binary64 x) → is_nan (rem binary64 x y) ≡ false → T (finite (rem binary64 x y))
unfolding rem is_nan
rem_finite nan y F h = no (sym h)
rem_finite (inf s) y F h = no (sym h)
rem_finite (fin s m e) nan F h = no (sym h)
rem_finite (fin s m e) (inf t) F h = tt
rem_finite (fin s m e) (fin t n d) F h = go (eqb n 0) h
  where
    a : ℕ
    a = m * up e * down d

    b : ℕ
    b = n * up d * down e

    c : ℕ
    c = down e * down d

    at_most : a % b * down e ≤ m * up e * c
    at_most = le_trans (mul-le-mul_right (down e) (mod-le a b)) (le_of_eq (over (m * up e) (down d) (down e)))

    go : (z : Bool) → is_nan (cond z nan (round binary64 s (a % b) c)) ≡ false → T (finite (cond z nan (round binary64 s (a % b) c)))
    go true h = no (sym h)
    go false h = round_finite binary64 s (a % b) c false m e (round_under (a % b) c m e (other_sign s false m e F) (mul-pos (down_pos e) (down_pos d)) at_most)

-- a remainder above 0.0 is finite
pub rem_positive : (x y : Float) → T (fits binary64 x) → lt nought (rem binary64 x y) ≡ true → T (positive (rem binary64 x y))
rem_positive x y F p = positive_of (rem binary64 x y) p (rem_finite x y F (above_number (rem binary64 x y) p))
