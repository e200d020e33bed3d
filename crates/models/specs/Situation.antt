-- The five situations of the diode's limiting rule, and the formula of each. `limited` (Diode) is the same rule in the Rust's order; that the two agree on every
-- input, and that exactly one situation holds, is in proofs/Laws/Situations.
use Rattle.std.specs.Prelude.{Bool, cond, Float}
use Rattle.std.specs.Float.Ieee.{lt, le}
use Rattle.num.specs.Floats.{nought, absolute_of}
use Rattle.num.specs.Literals.{one, two}
use Rattle.functions.specs.Ln.{ln_of}
use Rattle.models.specs.Signs.{◌⊕◌, ◌⊖◌, ◌⊗◌, ◌⊘◌}
use Rattle.models.specs.declared.diode.Situation.{Situation}
use Rattle.models.specs.declared.diode.Situation.TheVariants.{SmallStep, BelowCritical, TurnOn, FallBack, Climb}

-- the step, up or down, is at most two thermal voltages; the Rust: v_delta.abs() <= 2.0 * self.v_thermal
abbrev pub small : Float → Float → Float → Bool
small vt v last = le (absolute_of (v ⊖ last)) (two ⊗ vt)

-- the diode is asked to stand below its critical voltage; the Rust: v_hat < self.v_crit
abbrev pub below : Float → Float → Bool
below vcrit v = lt v vcrit

-- its last voltage was zero or below; the Rust: v_d_prev <= 0.0
abbrev pub resting : Float → Bool
resting last = le last nought

-- one plus the step counted in thermal voltages; the Rust: 1.0 + (v_delta / self.v_thermal)
abbrev pub argument : Float → Float → Float → Float
argument vt v last = one ⊕ (v ⊖ last) ⊘ vt

-- that is zero or below: at a thermal voltage above zero, a step far down; the Rust: arg <= 0.0
abbrev pub falling : Float → Float → Float → Bool
falling vt v last = le (argument vt v last) nought

-- "Choose first which of the five situations holds"
unfoldable pub situation_of : Float → Float → Float → Float → Situation
situation_of vt vcrit v last =
    cond (small vt v last) SmallStep
    (cond (below vcrit v) BelowCritical
    (cond (resting last) TurnOn
    (cond (falling vt v last) (FallBack vcrit)
    (Climb (argument vt v last)))))

-- "then work out one formula for it"
unfoldable pub limited_in : Situation → Float → Float → Float → Float
limited_in SmallStep vt v last = v
limited_in BelowCritical vt v last = v
limited_in TurnOn vt v last = vt ⊗ ln_of (v ⊘ vt)
limited_in (FallBack vcrit) vt v last = vcrit
limited_in (Climb arg) vt v last = last ⊕ vt ⊗ ln_of arg
