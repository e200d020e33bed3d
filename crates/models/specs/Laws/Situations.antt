-- When a situation of the limiting rule holds, and what a NaN does to a diode. That exactly one holds, whatever the numbers, and that its formula is the rule is in proofs/Laws/Situations.
-- Assumes nothing; NaN, infinities and thermal voltages of zero or below are numbers like any other here.
use Rattle.std.specs.Prelude.{◌≡◌, refl, Bool, true, false, cond, Some, None, Float}
use Rattle.std.specs.Float.{nan, inf, fin}
use Rattle.std.specs.Float.Ieee.{add, sub, mul, div, neg, lt, eq, le, is_nan, of_bits}
use Rattle.std.specs.Float.Ieee.Scale.{finite}
use Rattle.num.specs.Floats.{absolute_of}
use Rattle.num.specs.Literals.{one}
use Rattle.options.specs.declared.Options.{Options}
use Rattle.functions.specs.Exp.{exp_of}
use Rattle.functions.specs.Laws.Values.{exp_nan}
use Rattle.models.specs.Signs.{◌⊕◌, ◌⊖◌, ◌⊗◌, ◌⊘◌}
use Rattle.models.specs.Diode.{limited, model_at, model_of, linearized, critical, thermal, numbers_of}
use Rattle.models.specs.Situation.{small, below, resting, argument, falling, situation_of}
use Rattle.models.specs.declared.diode.Situation.{Situation}
use Rattle.models.specs.declared.diode.Situation.TheVariants.{SmallStep, BelowCritical, TurnOn, FallBack, Climb}

-- when a situation holds: its own condition does, and none before it
abbrev pub Holds : Situation → Float → Float → Float → Float → Type 0
Holds SmallStep vt vcrit v last = small vt v last ≡ true
Holds BelowCritical vt vcrit v last = (small vt v last ≡ false) × (below vcrit v ≡ true)
Holds TurnOn vt vcrit v last = (small vt v last ≡ false) × (below vcrit v ≡ false) × (resting last ≡ true)
Holds (FallBack c) vt vcrit v last = (small vt v last ≡ false) × (below vcrit v ≡ false) × (resting last ≡ false) × (falling vt v last ≡ true) × (c ≡ vcrit)
Holds (Climb a) vt vcrit v last = (small vt v last ≡ false) × (below vcrit v ≡ false) × (resting last ≡ false) × (falling vt v last ≡ false) × (a ≡ argument vt v last)

-- ---- NaN

pub times_nan : (x : Float) → x ⊗ nan ≡ nan
unfolding mul
times_nan nan = refl
times_nan (inf s) = refl
times_nan (fin s m e) = refl

pub plus_nan : (x : Float) → x ⊕ nan ≡ nan
unfolding add
plus_nan nan = refl
plus_nan (inf s) = refl
plus_nan (fin s m e) = refl

-- a diode that is asked to stand at a NaN is in a turn-on or a climb
pub nan_asked : (vt vcrit last : Float) → situation_of vt vcrit nan last ≡ cond (resting last) TurnOn (Climb nan)
unfolding situation_of absolute_of sub add div neg lt le eq of_bits
nan_asked vt vcrit last = refl

-- at a NaN there is no model
pub nan_model : (gmin isat vt : Float) → model_at gmin isat vt nan ≡ None
unfolding model_at div sub add
nan_model gmin isat vt = rw (exp_nan, times_nan isat)

-- what a model leaves to remember is the limited voltage or, with 22, what was remembered before
number_kept : (b : Bool) (g i x last : Float) → is_nan x ≡ false → is_nan last ≡ false → is_nan (numbers_of last (cond b (Some (model_of g i x)) None)).memory ≡ false
number_kept true g i x last k h = k
number_kept false g i x last k h = h

number_left : (gmin isat vt x last : Float) → is_nan last ≡ false → is_nan (numbers_of last (model_at gmin isat vt x)).memory ≡ false
unfolding model_at is_nan
number_left gmin isat vt nan last h = rw (nan_model gmin isat vt) h
number_left gmin isat vt (inf s) last h = number_kept (finite (isat ⊗ (exp_of (inf s ⊘ vt) ⊖ one))) _ _ (inf s) last refl h
number_left gmin isat vt (fin s m e) last h = number_kept (finite (isat ⊗ (exp_of (fin s m e ⊘ vt) ⊖ one))) _ _ (fin s m e) last refl h

-- so a diode that remembers a number is left none but a number to remember
pub number_remembered : (o : Options) (isat tdegc v last : Float) → is_nan last ≡ false → is_nan (numbers_of last (linearized o isat tdegc v last)).memory ≡ false
unfolding linearized
number_remembered o isat tdegc v last h = number_left o.gmin isat (thermal o tdegc) (limited (thermal o tdegc) (critical (thermal o tdegc) isat) v last) last h
