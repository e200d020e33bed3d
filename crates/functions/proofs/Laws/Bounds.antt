-- The bounds on exp, ln and sin, over whole numbers, and that k is the nearest number. Clients cite exp_close, ln_close, sin_close, nearest, exp_nearest, sin_nearest and the two that say that no quotient ties.
use Rattle.std.specs.Prelude.{◌≡◌, ℕ, zero, suc, ◌+◌, ◌*◌, ◌^◌, ◌<◌, ◌≤◌, Bool, true, false, cond, T, ◌≢◌, nat_le, refl, Float}
use Rattle.std.proofs.Common.{sym, ap, subst, mul-pos, lit≤}
use Rattle.std.proofs.Math.Dec.{eqb-suc-zero}
use Rattle.std.specs.Float.{nan, inf, fin, binary64}
use Rattle.std.specs.Float.Ieee.{fits}
use Rattle.std.specs.Float.Ieee.Scale.{finite}
use Rattle.std.specs.Float.Ieee.Positive.{num, den, den_pos, positive}
use Rattle.num.specs.Floats.{sign}
use Rattle.functions.specs.Fraction.{Within, FiniteWithin, apart}
use Rattle.functions.specs.Reduction.{left_of, k_of, f_top, f_bottom, f_minus, Nearest}
use Rattle.functions.specs.Exp.{ell, exp_of, ExpRange, over_power, power_sum}
use Rattle.functions.specs.Ln.{ln_positive, ln_of, LnClose, place_of}
use Rattle.functions.specs.Sin.{quarter, sin_of, sine_refusal, number_of, SinRange, quadrant, wave}
use Rattle.functions.proofs.Laws.ExpLaw as exp-law
use Rattle.functions.proofs.Laws.SinLaw as sin-law
use Rattle.functions.proofs.Laws.LnLaw as ln-law
use Rattle.functions.specs.Laws.Leading as leading-law
use Rattle.functions.specs.Laws.Reduced.{left_small}
use Rattle.functions.specs.Laws.Ties.{never, nearest_only}

-- exp, -708 to 709: k nearest x / L, f = x - k L; the result is a finite number above 0, and divided by 2 ^ k it is within 2 ^ -40 of the power sum of f to degree 13
pub exp_close : (x : Float) → ExpRange x → T (positive (exp_of x)) × Within 40 (over_power (sign x) (k_of ell x) (exp_of x)) (power_sum (f_minus ell x) (f_top ell x) (f_bottom x))
exp_close x r = exp-law.close x r

-- sin, finite and up to 2 ^ 20 in size: k nearest x / Q, f = x - k Q; not refused, and a finite number within 2 ^ -40 of the sine sum to f ^ 17 (k mod 4 = 0), the cosine sum to f ^ 16 (1), minus the first (2), minus the second (3)
pub sin_close : (x : Float) → SinRange x → (sine_refusal (sin_of x) ≡ 0) × FiniteWithin 40 (number_of (sin_of x)) (wave (quadrant x) (f_minus quarter x) (f_top quarter x) (f_bottom x))
sin_close x r = sin-law.close x r

-- above zero ln answers by the sum
pub ln_sum : (x : Float) → T (positive x) → ln_of x ≡ ln_positive x
unfolding ln_of
ln_sum nan p = absurd p
ln_sum (inf s) p = absurd p
ln_sum (fin true m e) p = absurd p
ln_sum (fin false zero e) p = absurd p
ln_sum (fin false (suc m) e) p = ap (λ (b : Bool). cond b (inf true) (ln_positive (fin false (suc m) e))) (eqb-suc-zero m)

-- ln, positive finite, subnormals too: x = 2 ^ e m, 3/4 ≤ m < 3/2, z = (m - 1) / (m + 1); a finite number within 2 ^ -40 of e L + 2 (z + z ^ 3 / 3 + .. + z ^ 19 / 19)
pub ln_close : (x : Float) → T (fits binary64 x) → T (positive x) → LnClose x (ln_of x)
ln_close x F p =
    let g = leading-law.leading x F p in
    let q = g.0 in
    let c = g.1 in
    let l = g.4 in
    let e = leading-law.scaled (num x) g.2 (den x) q c g.3 l in
    let h = nat_le (3 * 2 ^ 51) q in
    let r = leading-law.in_range q l.least l.most in
    subst (λ (y : Float). LnClose x y) (sym (ln_sum x p))
    (subst (λ (y : Float). LnClose x y) (sym (leading-law.answer_is x g.2 q c g.3 l))
    (record {
      place = place_of c h;
      least = ln-law.least (num x) (den x) c q h (den_pos x) e r l.few;
      below = ln-law.below (num x) (den x) c q h (den_pos x) e r l.few;
      close = ln-law.close (num x) (den x) c q h (den_pos x) e r l.few;
    }))

-- ---- k

-- k is nearest to the size of x over any modulus M / 2 ^ 64: at most 1/2 from it
pub nearest : (M : ℕ) → 0 < M → (x : Float) → 2 * apart (num x * 2 ^ 64) (k_of M x * (M * den x)) ≤ M * den x
unfolding left_of
nearest M p x = left_small M (num x) (den x) (mul-pos p (den_pos x)) (den_pos x)

-- the odd parts of ell and quarter, which are 4 and 8 times as large
abbrev ell_odd : ℕ
ell_odd = 3196577161300663915

abbrev quarter_odd : ℕ
quarter_odd = 3622009729038561421

-- over L and over Q it is less than 1/2 from it, and no other number is within 1/2
pub exp_nearest : (x : Float) → T (fits binary64 x) → T (finite x) → Nearest ell x (k_of ell x)
exp_nearest x F f = nearest_only x F f ell_odd 2 refl (lit≤ tt)

pub sin_nearest : (x : Float) → T (fits binary64 x) → T (finite x) → Nearest quarter x (k_of quarter x)
sin_nearest x F f = nearest_only x F f quarter_odd 3 refl (lit≤ tt)

-- quotients never tie: neither x / L nor x / Q is j + 1 / 2
pub exp_never_ties : (x : Float) → T (fits binary64 x) → T (finite x) → (j : ℕ) → 2 * (num x * 2 ^ 64) ≢ (2 * j + 1) * (ell * den x)
exp_never_ties x F f j e = never x F f ell_odd 2 refl (lit≤ tt) j e

pub sin_never_ties : (x : Float) → T (fits binary64 x) → T (finite x) → (j : ℕ) → 2 * (num x * 2 ^ 64) ≢ (2 * j + 1) * (quarter * den x)
sin_never_ties x F f j e = never x F f quarter_odd 3 refl (lit≤ tt) j e
