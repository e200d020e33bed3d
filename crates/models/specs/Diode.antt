-- The diode: "Limiting follows `linearize`". Clients cite linearized, Numbers and numbers_of.
use Rattle.std.specs.Prelude.{ℕ, cond, Option, Some, None, Float}
use Rattle.std.specs.Float.{binary64}
use Rattle.std.specs.Float.Ieee.{of_bits, lt, le}
use Rattle.std.specs.Float.Ieee.Scale.{finite}
use Rattle.numbers.specs.Verdicts.{settled, diode_current}
use Rattle.num.specs.Floats.{nought, absolute_of}
use Rattle.options.specs.declared.Options.{Options}
use Rattle.functions.specs.Exp.{exp_of}
use Rattle.functions.specs.Ln.{ln_of}
use Rattle.models.specs.Signs.{◌⊕◌, ◌⊖◌, ◌⊗◌, ◌⊘◌}
use Rattle.num.specs.Literals.{one, two}
use Rattle.models.specs.declared.diode.Diode.{Diode}
use Rattle.models.specs.declared.diode.Model.{Model}

-- "root two is 0x3FF6A09E667F3BCD"
abbrev pub root_two : Float
root_two = of_bits binary64 0x3ff6_a09e_667f_3bcd

-- 363.0
abbrev pub shift : Float
shift = of_bits binary64 0x4076_b000_0000_0000

-- "Thermal voltage: BOLTZMANN (363.0 + tdegc) / CHARGE"
unfoldable pub thermal : Options → Float → Float
thermal o tdegc = o.boltzmann ⊗ (shift ⊕ tdegc) ⊘ o.charge

-- a diode at a temperature, last limited to `last`
abbrev pub diode_of : Options → Float → Float → Float → Diode
diode_of o isat tdegc last = record { gmin = o.gmin; i_sat = isat; v_thermal = thermal o tdegc; v_d_prev = last }

-- the critical voltage, below which no step is limited
unfoldable pub critical : Float → Float → Float
critical vt isat = vt ⊗ ln_of (vt ⊘ (root_two ⊗ isat))

-- The voltage v, limited, after the last limited one. Below the critical voltage it passes, and so does a step within two thermal voltages: "a step
-- of exactly two thermal voltages passes". From a last voltage not above zero it becomes a logarithm of v, else the last voltage and a logarithm of
-- the step, or the critical voltage where that has none.
unfoldable pub limited : Float → Float → Float → Float → Float
limited vt vcrit v last =
    let delta = v ⊖ last in
    let arg = one ⊕ delta ⊘ vt in
    cond (lt v vcrit) v
    (cond (le (absolute_of delta) (two ⊗ vt)) v
    (cond (le last nought) (vt ⊗ ln_of (v ⊘ vt))
    (cond (le arg nought) vcrit
    (last ⊕ vt ⊗ ln_of arg))))

-- "Conductance below GMIN becomes GMIN"; a NaN is not below it
unfoldable pub floored : Float → Float → Float
floored gmin g = cond (lt g gmin) gmin g

-- a conductance and a current beside it, and the voltage to remember
abbrev pub model_of : Float → Float → Float → Model
model_of g i v = record { g = g; i = i; memory = v }

-- the model at the limited voltage v; "diode current not finite" where there is none, whatever its conductance or the current beside that is
unfoldable pub model_at : Float → Float → Float → Float → Option Model
model_at gmin isat vt v =
    let e = exp_of (v ⊘ vt) in
    let id = isat ⊗ (e ⊖ one) in
    let g = floored gmin (isat ⊘ vt ⊗ e) in
    cond (finite id) (Some (model_of g (id ⊖ g ⊗ v) v)) None

-- the model of a diode at the voltage v, last limited to `last`
unfoldable pub linearized : Options → Float → Float → Float → Float → Option Model
linearized o isat tdegc v last =
    let vt = thermal o tdegc in
    model_at o.gmin isat vt (limited vt (critical vt isat) v last)

-- the numbers of an answer: the verdict, the model's conductance and current, and the diode's memory afterwards
pub record Numbers : Type 0 where
  pub verdict : ℕ
  pub g : Float
  pub i : Float
  pub memory : Float

-- "22 diode current not finite (the Rust panics)": there is no model then, and the diode keeps its last voltage, since the Rust panics before it stores
abbrev pub numbers_of : Float → Option Model → Numbers
numbers_of last (Some m) = record { verdict = settled; g = m.g; i = m.i; memory = m.memory }
numbers_of last None = record { verdict = diode_current; g = nought; i = nought; memory = last }
