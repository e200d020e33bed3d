-- The values of exp, ln and sin that no bound speaks of: at NaN, the infinities and the zeros, outside the ranges, and at 1 for ln. Clients cite them.
use Rattle.std.specs.Prelude.{◌≡◌, ℕ, suc, ◌*◌, ◌^◌, ◌<◌, Bool, true, false, cond, T, ℤ, pos, negsuc, refl, Some, None, Float}
use Rattle.std.proofs.Common.{ap, ◌∙◌}
use Rattle.std.proofs.Math.Dec.{eqb-suc-zero}
use Rattle.std.specs.Int.Count.{count_leading_zeros}
use Rattle.std.specs.Float.{nan, inf, fin}
use Rattle.std.specs.Float.Ieee.{lt, of_bits, size, up, down}
use Rattle.std.specs.Float.Ieee.Scale.{finite}
use Rattle.std.specs.Float.Ieee.Positive.{num, den}
use Rattle.std.proofs.lemmas.Bool.{lt-leb}
use Rattle.functions.specs.Reduction.{nearest_of, left_of, below_of}
use Rattle.functions.specs.Words.{horner, rounded, packed}
use Rattle.functions.specs.Exp.{fixed_exp, exp_size, exp_finite, exp_of, highest, lowest}
use Rattle.functions.specs.Ln.{ln_word, z_word, ln_size, ln_answer, ln_positive, ln_of}
use Rattle.functions.specs.Sin.{sin_small, sin_near, sin_of, sine_refusal}

abbrev nought : Bool → Float
nought s = fin s 0 (pos 0)

-- ---- exp

-- exp of either zero is 1
pub exp_zero : (s : Bool) → exp_of (nought s) ≡ fin false 1 (pos 0)
unfolding exp_of exp_size nearest_of left_of below_of horner fixed_exp rounded packed count_leading_zeros of_bits
exp_zero true = refl
exp_zero false = refl

pub exp_nan : exp_of nan ≡ nan
unfolding exp_of
exp_nan = refl

-- above 709 infinity, which is exp of infinity too
pub exp_above : (x : Float) → lt highest x ≡ true → exp_of x ≡ inf false
unfolding exp_of
exp_above x h = ap (λ (t : Bool). cond t (inf false) (cond (lt x lowest) (nought false) (exp_finite x))) h

pub exp_infinity : exp_of (inf false) ≡ inf false
unfolding exp_of
exp_infinity = refl

-- below -708 zero, which is exp of minus infinity too
pub exp_below : (x : Float) → lt highest x ≡ false → lt x lowest ≡ true → exp_of x ≡ nought false
unfolding exp_of
exp_below x g h = ap (λ (t : Bool). cond t (inf false) (cond (lt x lowest) (nought false) (exp_finite x))) g ∙ ap (λ (t : Bool). cond t (nought false) (exp_finite x)) h

pub exp_minus_infinity : exp_of (inf true) ≡ nought false
unfolding exp_of
exp_minus_infinity = refl

-- ---- ln

pub ln_one : ln_of (fin false 1 (pos 0)) ≡ nought false
unfolding ln_of ln_positive ln_answer ln_size ln_word z_word horner rounded packed count_leading_zeros of_bits size
ln_one = refl

pub ln_zero : (s : Bool) (e : ℤ) → ln_of (fin s 0 e) ≡ inf true
unfolding ln_of
ln_zero s e = refl

pub ln_negative : (m : ℕ) (e : ℤ) → ln_of (fin true (suc m) e) ≡ nan
unfolding ln_of
ln_negative m e = ap (λ (b : Bool). cond b (inf true) nan) (eqb-suc-zero m)

pub ln_infinity : ln_of (inf false) ≡ inf false
unfolding ln_of
ln_infinity = refl

pub ln_minus_infinity : ln_of (inf true) ≡ nan
unfolding ln_of
ln_minus_infinity = refl

pub ln_nan : ln_of nan ≡ nan
unfolding ln_of
ln_nan = refl

-- ---- sin

-- sin of a zero is that zero
pub sin_zero : (s : Bool) → sin_of (nought s) ≡ Some (nought s)
unfolding sin_of sin_near sin_small size
sin_zero true = refl
sin_zero false = refl

pub sin_nan : sin_of nan ≡ Some nan
unfolding sin_of
sin_nan = refl

pub sin_infinity : (s : Bool) → sin_of (inf s) ≡ Some nan
unfolding sin_of
sin_infinity s = refl

-- finite and beyond 2 ^ 20 in size: refused by 12
pub sin_refused : (x : Float) → T (finite x) → 2 ^ 20 * den x < num x → sin_of x ≡ None
unfolding sin_of
sin_refused nan f h = absurd f
sin_refused (inf s) f h = absurd f
sin_refused (fin s m e) f h = ap (λ (b : Bool). cond b (Some (sin_near (fin s m e))) None) (lt-leb (m * up e) (2 ^ 20 * down e) h)

-- 2 ^ 20 runs, and the next float is refused
pub sin_edge : (sine_refusal (sin_of (fin false 1 (pos 20))) ≡ 0) × (sine_refusal (sin_of (fin false 4503599627370497 (negsuc 31))) ≡ 12)
unfolding sin_of
sin_edge = (refl, refl)
