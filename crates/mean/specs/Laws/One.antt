-- The mean of one float is that float. Clients cite mean_of_one.
use Rattle.std.specs.Prelude.{◌≡◌, ℕ, zero, suc, ◌+◌, ◌-◌, ◌*◌, ◌/◌, ◌%◌, ◌^◌, ◌<◌, ◌≤◌, Bool, true, false, cond, List, length, to_bits, refl, Float}
use Rattle.std.proofs.Common.{sym, ap, ◌∙◌, subst, lt_of_lt_of_le, mul-pos, mul_assoc, one-mul, arith, lit<, pow-add, pow_pos, pow_mono, shl_lt}
use Rattle.std.specs.Float.{binary64}
use Rattle.std.specs.Float.Ieee.{unlike, round}
use Rattle.std.specs.Float.Ieee.Exact.{HasValue, round_exact}
use Rattle.std.specs.Float.Ieee.Fits.{round-fits}
use Rattle.std.specs.Float.Ieee.Scale.{round_same}
use Rattle.numbers.specs.Limits.{sum_limbs}
use Rattle.exact.specs.Limbs.{value}
use Rattle.num.specs.Floats.{sign}
use Rattle.exact.specs.Exact.{units, whole}
use Rattle.exact.specs.Laws.Units.{one_sign, one_units, Says, said_sign, said_units, subnormal, normal}
use Rattle.exact.specs.Laws.Sums.{Factor}
use Rattle.mean.specs.Mean.{mean_of}
use Rattle.mean.specs.Laws.Mean.{mean_plus, mean_minus}
use Rattle.exact.specs.Laws.Bits.{same_float}

-- a float's own units, rounded, are the float
own : (x : Float) (s : Bool) (d p : ℕ) → Factor x → Says x s d p → round binary64 s (units x) (2 ^ 1074) ≡ x
own x s d p f h =
    let u : d * 2 ^ p ≡ units x = said_units x s d p h in
    same_float (round binary64 s (units x) (2 ^ 1074)) x s (units x) (round-fits binary64 s (units x) (2 ^ 1074)) f.0
    (round_exact binary64 s (units x) (2 ^ 1074) d p (pow_pos 1074) h.small.few (lt_of_lt_of_le (shl_lt 53 p h.small.few) (pow_mono (top p h.small.low))) (ap (λ (n : ℕ). n * 2 ^ 1074) (sym u)))
    (subst (λ (n : ℕ). HasValue x s n (2 ^ 1074)) u h.is)
  where
    top : (a : ℕ) → a ≤ 2045 → 53 + a ≤ 2098
    top a g = omega arith

own_sign : (x : Float) → Factor x → round binary64 (sign x) (units x) (2 ^ 1074) ≡ x
own_sign x f = go (to_bits binary64 x % 2 ^ 63 / 2 ^ 52) refl
  where
    says : (s : Bool) (d p : ℕ) → Says x s d p → round binary64 (sign x) (units x) (2 ^ 1074) ≡ x
    says s d p h = ap (λ (t : Bool). round binary64 t (units x) (2 ^ 1074)) (sym (said_sign x s d p h)) ∙ own x s d p f h

    go : (k : ℕ) → to_bits binary64 x % 2 ^ 63 / 2 ^ 52 ≡ k → round binary64 (sign x) (units x) (2 ^ 1074) ≡ x
    go zero e = says _ _ _ (subnormal x f.0 f.1 e)
    go (suc k) e = says _ _ _ (normal x f.0 f.1 k e)

over_one : (x : Float) (n : ℕ) → Factor x → n ≡ units x * 2 ^ 1074 → round binary64 (sign x) n (1 * 2 ^ 2148) ≡ x
over_one x n f e =
    ap (λ (a : ℕ). round binary64 (sign x) a (1 * 2 ^ 2148)) e
    ∙ round_same binary64 (sign x) (units x * 2 ^ 1074) (1 * 2 ^ 2148) (units x) (2 ^ 1074) (mul-pos {m = 1} {n = 2 ^ 2148} (lit< tt) (pow_pos 2148)) (pow_pos 1074)
    (mul_assoc (units x) (2 ^ 1074) (2 ^ 1074) ∙ ap (λ (a : ℕ). units x * a) (sym (pow-add 2 1074 1074) ∙ sym (one-mul (2 ^ 2148))))
    ∙ own_sign x f

-- rows that keep one float and nothing else, over 1: the float, and 0.0 for -0.0
pub mean_of_one : (x : Float) (p m : List ℕ) → length p ≡ sum_limbs → length m ≡ sum_limbs → Factor x → value p ≡ (whole x).plus → value m ≡ (whole x).minus → (sign x ≡ true → 0 < units x) → mean_of p m 1 ≡ x
mean_of_one x p m P M f a b some = go (sign x) refl
  where
    none : (n k : ℕ) → n ≡ 0 → k - n ≡ k
    none n k e = omega arith

    under : (n k : ℕ) → n ≡ 0 → n ≤ k
    under n k e = omega arith

    above : (n k u : ℕ) → n ≡ 0 → k ≡ u * 2 ^ 1074 → 0 < u * 2 ^ 1074 → n < k
    above n k u e g h = lt_of_lt_of_le (subst (λ (i : ℕ). i < u * 2 ^ 1074) (sym e) h) (subst (λ (i : ℕ). u * 2 ^ 1074 ≤ i) (sym g) (same (u * 2 ^ 1074)))
      where
        same : (i : ℕ) → i ≤ i
        same i = omega arith

    side : (s : Bool) → sign x ≡ s → (value p ≡ cond s 0 (units x * 2 ^ 1074)) × (value m ≡ cond s (units x * 2 ^ 1074) 0)
    side true e = (a ∙ (λ i. cond (unlike (e i) (one_sign i)) 0 (units x * one_units i)), b ∙ (λ i. cond (unlike (e i) (one_sign i)) (units x * one_units i) 0))
    side false e = (a ∙ (λ i. cond (unlike (e i) (one_sign i)) 0 (units x * one_units i)), b ∙ (λ i. cond (unlike (e i) (one_sign i)) (units x * one_units i) 0))

    go : (s : Bool) → sign x ≡ s → mean_of p m 1 ≡ x
    go true e =
        let q = side true e in
        mean_minus p m 1 P M (lit< tt) (lit< tt) (above (value p) (value m) (units x) q.0 q.1 (mul-pos (some e) (pow_pos 1074)))
        ∙ ap (λ (s : Bool). round binary64 s (value m - value p) (1 * 2 ^ 2148)) (sym e)
        ∙ over_one x (value m - value p) f (none (value p) (value m) q.0 ∙ q.1)
    go false e =
        let q = side false e in
        mean_plus p m 1 P M (lit< tt) (lit< tt) (under (value m) (value p) q.1)
        ∙ ap (λ (s : Bool). round binary64 s (value p - value m) (1 * 2 ^ 2148)) (sym e)
        ∙ over_one x (value p - value m) f (none (value m) (value p) q.1 ∙ q.0)
