-- The tests by which ln and sin tell the inputs at which they take no sum: zeros, negatives, infinities, NaN, and for sin what lies beyond 2 ^ 20. Assumes nothing.
use Rattle.std.proofs.Common.{◌≡◌, ℕ, zero, suc, ◌*◌, ◌^◌, ◌<◌, ◌≤◌, Bool, true, false, cond, ◌||◌, T, eqb, pos, sym, refl, ap, ◌∙◌, subst, true≢false, arith, lt→ltb, ltb-false, ltb-true, eq-eqb, eqb-true, Some}
use mathlib.Core.Bool.{beq, and-eq-true_iff as both}
use lib.Dec.{eqb-suc-zero}
use lib.Ieee.{Float, nan, inf, fin, lt, eq, ne, up, down, level}
use lib.Ieee.Fits.{up_pos}
use lib.Ieee.Compare.{nan_differs, differs_from_itself}
use lib.Ieee.Positive.{positive}
use Rattle.functions.specs.Ln.{ln_positive, ln_of}
use Rattle.functions.specs.Sin.{sin_far, sin_of, SinRange}
use Rattle.functions.specs.Laws.Values as values

abbrev zero· : Float
zero· = fin false 0 (pos 0)

-- ---- ln

-- a float with no digit is level with 0.0
level_zero : (s : Bool) (a b : ℕ) → a ≡ 0 → b ≡ 0 → level s a false b ≡ true
level_zero true a b p q = rw (p, q)
level_zero false a b p q = rw (p, q)

is_zero : (s : Bool) (m : ℕ) (u v : ℕ) → m ≡ 0 → level s (m * u * 1) false (0 * 1 * v) ≡ true
is_zero s m u v e = level_zero s (m * u * 1) (0 * 1 * v) (go e) (omega arith)
  where
    go : m ≡ 0 → m * u * 1 ≡ 0
    go p = ap (λ (n : ℕ). n * u * 1) p ∙ omega arith

above_zero : (m u v : ℕ) → 0 * 1 * v < m * u * 1 → 1 ≤ m
above_zero zero u v h = absurd (none u v h)
  where
    none : (a b : ℕ) → 0 * 1 * b < 0 * a * 1 → ⊥
    none a b p = omega arith
above_zero (suc m) u v h = omega arith

-- above 0.0 and no infinity
pub is_positive : (x : Float) → lt zero· x ≡ true → eq x (inf false) ≡ false → T (positive x)
unfolding lt eq
is_positive nan h g = absurd (true≢false (sym h))
is_positive (inf true) h g = absurd (true≢false (sym h))
is_positive (inf false) h g = absurd (true≢false g)
is_positive (fin true m e) h g = absurd (true≢false (sym h))
is_positive (fin false m e) h g = lt→ltb 0 m (above_zero m (up e) (down e) (ltb-true (0 * 1 * down e) (m * up e * 1) h))

pub ln_infinity : (x : Float) → eq x (inf false) ≡ true → x ≡ ln_of x
unfolding eq ln_of
ln_infinity nan h = refl
ln_infinity (inf true) h = absurd (true≢false (sym h))
ln_infinity (inf false) h = refl
ln_infinity (fin s m e) h = absurd (true≢false (sym h))

no_digit : (m u v : ℕ) → 0 < u → m * u * 1 ≡ 0 * 1 * v → m ≡ 0
no_digit zero u v p e = refl
no_digit (suc m) u v p e = absurd (none m u v p e)
  where
    none : (a b c : ℕ) → 0 < b → suc a * b * 1 ≡ 0 * 1 * c → ⊥
    none a b c q f = omega arith

pub ln_zero : (x : Float) → eq x zero· ≡ true → inf true ≡ ln_of x
unfolding eq ln_of
ln_zero nan h = absurd (true≢false (sym h))
ln_zero (inf s) h = absurd (true≢false (sym h))
ln_zero (fin s m e) h = sym (ap (λ (b : Bool). cond b (inf true) (cond s nan (ln_positive (fin s m e)))) (eq-eqb m 0 (no_digit m (up e) (down e) (up_pos e) (eqb-true (m * up e * 1) (0 * 1 * down e) ((both (eqb (m * up e * 1) (0 * 1 * down e)) (beq s false || eqb (m * up e * 1) 0)).0 h).0))))

pub ln_none : (x : Float) → lt zero· x ≡ false → eq x zero· ≡ false → nan ≡ ln_of x
unfolding lt eq ln_of
ln_none nan h g = refl
ln_none (inf true) h g = refl
ln_none (inf false) h g = absurd (true≢false h)
ln_none (fin true zero e) h g = absurd (true≢false (sym (is_zero true 0 (up e) (down e) refl) ∙ g))
ln_none (fin true (suc m) e) h g = sym (ap (λ (b : Bool). cond b (inf true) nan) (eqb-suc-zero m))
ln_none (fin false zero e) h g = absurd (true≢false (sym (is_zero false 0 (up e) (down e) refl) ∙ g))
ln_none (fin false (suc m) e) h g = absurd (more m (up e) (down e) (up_pos e) (ltb-false (0 * 1 * down e) (suc m * up e * 1) h))
  where
    more : (a b c : ℕ) → 0 < b → suc a * b * 1 ≤ 0 * 1 * c → ⊥
    more a b c p q = omega arith

-- ---- sin

-- what is above 2 ^ 20, or below minus that
more : (a b : ℕ) → 2 ^ 20 * b < a * 1 → 2 ^ 20 * b < a
more a b p = omega arith

once : (a b : ℕ) → a * 1 ≤ 2 ^ 20 * b → a ≤ 2 ^ 20 * b
once a b p = omega arith

pub sin_above : (x : Float) → lt (fin false 1 (pos 20)) x ≡ true → sin_far x ≡ sin_of x
unfolding lt sin_far
sin_above nan h = absurd (true≢false (sym h))
sin_above (inf s) h = sym (values.sin_infinity s)
sin_above (fin true m e) h = absurd (true≢false (sym h))
sin_above (fin false m e) h = sym (values.sin_refused (fin false m e) tt (more (m * up e) (down e) (ltb-true (2 ^ 20 * down e) (m * up e * 1) h)))

pub sin_below : (x : Float) → lt x (fin true 1 (pos 20)) ≡ true → sin_far x ≡ sin_of x
unfolding lt sin_far
sin_below nan h = absurd (true≢false (sym h))
sin_below (inf s) h = sym (values.sin_infinity s)
sin_below (fin false m e) h = absurd (true≢false (sym h))
sin_below (fin true m e) h = sym (values.sin_refused (fin true m e) tt (more (m * up e) (down e) (ltb-true (2 ^ 20 * down e) (m * up e * 1) h)))

pub sin_nan : (x : Float) → ne x x ≡ true → Some x ≡ sin_of x
sin_nan x h = subst (λ (y : Float). Some y ≡ sin_of y) (sym (differs_from_itself x (subst T (sym h) tt))) (sym values.sin_nan)

pub sin_in_range : (x : Float) → ne x x ≡ false → lt (fin false 1 (pos 20)) x ≡ false → lt x (fin true 1 (pos 20)) ≡ false → SinRange x
unfolding lt
sin_in_range nan n g h = absurd (true≢false (sym nan_differs ∙ n))
sin_in_range (inf false) n g h = absurd (true≢false g)
sin_in_range (inf true) n g h = absurd (true≢false h)
sin_in_range (fin false m e) n g h = record { number = tt; most = once (m * up e) (down e) (ltb-false (2 ^ 20 * down e) (m * up e * 1) g) }
sin_in_range (fin true m e) n g h = record { number = tt; most = once (m * up e) (down e) (ltb-false (2 ^ 20 * down e) (m * up e * 1) h) }
