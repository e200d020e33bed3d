-- A sine source at time 0.0 is never refused, whatever its numbers: its argument is a zero of either sign or a NaN, and sin answers both.
-- Clients cite argument_at_zero and sine_at_zero. Assumes nothing.
use Rattle.std.specs.Prelude.{ℕ, zero, suc, ◌+◌, ◌*◌, ◌^◌, ◌<◌, ◌≡◌, Bool, true, false, eqb, leb, cond, Some, None, Float}
use Rattle.std.proofs.Math.Path.{refl, ap}
use Rattle.std.proofs.Common.{sym, ◌∙◌, mul-zero, mul-pos, zero-lt-suc, arith, eqb-true, le-leb, pow_pos}
use Rattle.std.proofs.lemmas.Bool.{false≢true}
use Rattle.std.proofs.Math.Nat.{zero-mul}
use Rattle.std.specs.Float.Ieee.{nan, prec, emax, low, up, down, of_bits, mul, round}
use Rattle.std.specs.Float.{inf, fin, binary64}
use Rattle.std.specs.Float.Ieee.Exact.{HasValue, round_exact}
use Rattle.std.specs.Float.Ieee.Fits.{up_pos, down_pos}
use Rattle.numbers.specs.Verdicts.{settled}
use Rattle.num.specs.Floats.{nought}
use Rattle.num.specs.Literals.{two}
use Rattle.functions.specs.Sin.{sin_near, sin_of}
use Rattle.models.specs.Signs.{◌⊗◌}
use Rattle.models.specs.Sine.{PI, level_of, sine_at, numbers_of}

-- a zero of either sign, or a NaN
abbrev pub zero_or_nan : Float → Bool
zero_or_nan nan = true
zero_or_nan (inf s) = false
zero_or_nan (fin s m e) = eqb m 0

-- ---- anything times 0.0

zero_valued : (x : Float) (s : Bool) (d : ℕ) → 0 < d → HasValue x s 0 d → zero_or_nan x ≡ true
zero_valued nan s d p h = refl
zero_valued (inf t) s d p h = absurd h
zero_valued (fin t zero e) s d p h = refl
zero_valued (fin t (suc m) e) s d p h = absurd (omega (arith, mul-pos (mul-pos (zero-lt-suc m) (up_pos e)) p, h.1, zero-mul (down e)))

zero_rounded : (s : Bool) (n d : ℕ) → n ≡ 0 → 0 < d → zero_or_nan (round binary64 s n d) ≡ true
zero_rounded s n d e p =
    rw e
    (zero_valued (round binary64 s 0 d) s d p
    (round_exact binary64 s 0 d 0 0 p (pow_pos (prec binary64)) (pow_pos (low binary64 + suc (emax binary64))) (zero-mul (2 ^ low binary64) ∙ sym (zero-mul d))))

times_zero : (x : Float) → zero_or_nan (x ⊗ nought) ≡ true
unfolding mul of_bits
times_zero nan = refl
times_zero (inf s) = refl
times_zero (fin s m e) = zero_rounded _ _ _ (mul-zero (m * up e)) (mul-pos (down_pos e) (pow_pos 0))

-- the argument ((2.0 * PI) * freq) * 0.0
pub argument_at_zero : (freq : Float) → zero_or_nan (two ⊗ PI ⊗ freq ⊗ nought) ≡ true
argument_at_zero freq = times_zero (two ⊗ PI ⊗ freq)

-- ---- sin there

module _ (vo va : Float) where
  picked : (b : Bool) (y : Float) → b ≡ true → (numbers_of (level_of vo va (cond b (Some y) None))).verdict ≡ settled
  unfolding level_of
  picked b y e = rw e

  answered : (x : Float) → zero_or_nan x ≡ true → (numbers_of (level_of vo va (sin_of x))).verdict ≡ settled
  unfolding sin_of level_of
  answered nan h = refl
  answered (inf s) h = absurd (false≢true h)
  answered (fin s m e) h =
      let z : m * up e ≡ 0 = ap (λ (k : ℕ). k * up e) (eqb-true m 0 h) ∙ zero-mul (up e) in
      picked (leb (m * up e) (2 ^ 20 * down e)) (sin_near (fin s m e)) (le-leb (m * up e) (2 ^ 20 * down e) (omega arith))

  -- the source has a level at 0.0
  pub sine_at_zero : (freq : Float) → (numbers_of (sine_at vo va freq nought)).verdict ≡ settled
  unfolding sine_at
  sine_at_zero freq = answered (two ⊗ PI ⊗ freq ⊗ nought) (argument_at_zero freq)
