-- What the numbers of the models' answers say. Clients cite level_numbers, diode_kept and diode_limited. Assumes nothing.
use Rattle.std.specs.Prelude.{◌≡◌, refl, Bool, true, false, cond, eqb, Option, Some, None, Float}
use Rattle.std.proofs.Common.{arith}
use Rattle.std.specs.Float.Ieee.Scale.{finite}
use Rattle.num.specs.Literals.{one}
use Rattle.numbers.specs.Verdicts.{settled, diode_current, sine_refused}
use Rattle.functions.specs.Exp.{exp_of}
use Rattle.functions.specs.Sin as sin
use Rattle.models.specs.Signs.{◌⊖◌, ◌⊗◌, ◌⊘◌}
use Rattle.models.specs.Diode as diode
use Rattle.models.specs.Sine as sine
use Rattle.models.specs.declared.diode.Model.{Model}

-- "26 sine refused by 12": so exactly where the sine is refused
pub level_numbers : (vo va : Float) (s : Option Float) → (sine.numbers_of (sine.level_of vo va s)).verdict ≡ cond (eqb (sin.numbers_of s).refusal 0) settled sine_refused
unfolding sine.level_of
level_numbers vo va (Some y) = refl
level_numbers vo va None = refl

-- with 22 a diode keeps the voltage handed in
pub diode_kept : (last : Float) (l : Option Model) → (diode.numbers_of last l).verdict ≡ diode_current → (diode.numbers_of last l).memory ≡ last
diode_kept last (Some m) e = absurd (omega arith)
diode_kept last None e = refl

-- and settled it keeps the limited one
pub diode_limited : (gmin isat vt v last : Float) → (diode.numbers_of last (diode.model_at gmin isat vt v)).verdict ≡ settled → (diode.numbers_of last (diode.model_at gmin isat vt v)).memory ≡ v
unfolding diode.model_at
diode_limited gmin isat vt v last = go (finite (isat ⊗ (exp_of (v ⊘ vt) ⊖ one))) _ _
  where
    go : (b : Bool) (g i : Float) → (diode.numbers_of last (cond b (Some (diode.model_of g i v)) None)).verdict ≡ settled → (diode.numbers_of last (cond b (Some (diode.model_of g i v)) None)).memory ≡ v
    go true g i e = refl
    go false g i e = absurd (omega arith)
