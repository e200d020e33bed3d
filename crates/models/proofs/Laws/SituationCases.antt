-- The five situations of the limiting rule at every edge, each by computing the definitions. A pair is the voltage asked for and the last one.
use Rattle.std.specs.Prelude.{◌≡◌, refl, true, List, [], ◌∷◌, map, None, Float}
use Rattle.std.specs.Int.Count.{count_leading_zeros}
use Rattle.std.specs.Float.{nan, binary64}
use Rattle.std.specs.Float.Ieee.{of_bits, size, add, sub, mul, div, neg, lt, le}
use Rattle.num.specs.Floats.{nought, absolute_of}
use Rattle.num.specs.Literals.{half, one, two, three, four, five, minus_one, minus_zero, infinity}
use Rattle.functions.specs.Exp.{exp_of}
use Rattle.functions.specs.Ln.{ln_word, z_word, ln_size, ln_answer, ln_positive, ln_of}
use Rattle.functions.specs.Words.{horner, rounded, packed}
use Rattle.models.specs.Signs.{◌⊕◌}
use Rattle.models.specs.Diode.{critical, limited, model_at}
use Rattle.models.specs.Situation.{falling, situation_of}
use Rattle.models.specs.declared.diode.Situation.{Situation}
use Rattle.models.specs.declared.diode.Situation.TheVariants.{SmallStep, BelowCritical, TurnOn, FallBack, Climb}

abbrev nine : Float
nine = of_bits binary64 0x4022_0000_0000_0000

-- the least float above 0.0, those next to 2, 3 and 4, and one so far below 1 that 3 less it is no 2
abbrev least : Float
least = of_bits binary64 1

abbrev below_two : Float
below_two = of_bits binary64 0x3fff_ffff_ffff_ffff

abbrev above_two : Float
above_two = of_bits binary64 0x4000_0000_0000_0001

abbrev above_three : Float
above_three = of_bits binary64 0x4008_0000_0000_0001

abbrev below_four : Float
below_four = of_bits binary64 0x400f_ffff_ffff_ffff

abbrev below_one : Float
below_one = of_bits binary64 0x3fef_ffff_ffff_fffc

-- the situations of many pairs at one thermal and one critical voltage
abbrev situations : Float → Float → List (Float × Float) → List Situation
situations vt vcrit = map (λ (p : Float × Float). situation_of vt vcrit p.0 p.1)

-- a step of exactly two thermal voltages is small: up, down, and from either zero
case_two : situations one nought ((two, nought) ∷ (two, minus_zero) ∷ (three, one) ∷ (one, three) ∷ []) ≡ SmallStep ∷ SmallStep ∷ SmallStep ∷ SmallStep ∷ []
unfolding situation_of absolute_of of_bits add sub mul div neg lt le
case_two = refl

-- beyond it: a turn-on from either zero, a climb up, a fall back down
case_beyond_two : situations one nought ((above_two, nought) ∷ (above_two, minus_zero) ∷ (above_three, one) ∷ (below_one, three) ∷ []) ≡ TurnOn ∷ TurnOn ∷ Climb above_three ∷ FallBack nought ∷ []
unfolding situation_of absolute_of of_bits add sub mul div neg lt le
case_beyond_two = refl

-- a last voltage of 0.0, of -0.0 and below is at rest; the least above is not
case_rest : situations one nought ((three, nought) ∷ (three, minus_zero) ∷ (three, neg least) ∷ (three, least) ∷ []) ≡ TurnOn ∷ TurnOn ∷ TurnOn ∷ Climb four ∷ []
unfolding situation_of absolute_of of_bits add sub mul div neg lt le
case_rest = refl

-- an argument of exactly 0 falls back, and a float above it climbs: at a thermal voltage of -1, since above zero such a step is small
case_argument_zero : situations minus_one nought ((two, one) ∷ (below_two, one) ∷ []) ≡ FallBack nought ∷ Climb (of_bits binary64 0x3cb0_0000_0000_0000) ∷ []
unfolding situation_of absolute_of of_bits add sub mul div neg lt le
case_argument_zero = refl

-- at the critical voltage, here 4, a diode is not below it; a float under it is
case_critical : situations one four ((four, nought) ∷ (four, one) ∷ (four, nine) ∷ (below_four, nought) ∷ (below_four, one) ∷ (below_four, nine) ∷ []) ≡ TurnOn ∷ Climb four ∷ FallBack four ∷ BelowCritical ∷ BelowCritical ∷ BelowCritical ∷ []
unfolding situation_of absolute_of of_bits add sub mul div neg lt le
case_critical = refl

-- a NaN asked for is a turn-on or a climb; a NaN remembered is no small step and no rest
case_nan : situations one nought ((nan, nought) ∷ (nan, minus_one) ∷ (nan, one) ∷ (minus_one, nan) ∷ (one, nan) ∷ []) ≡ TurnOn ∷ TurnOn ∷ Climb nan ∷ BelowCritical ∷ Climb nan ∷ []
unfolding situation_of absolute_of of_bits add sub mul div neg lt le
case_nan = refl

-- infinities, asked for and remembered; from infinity to infinity is a NaN of a step
case_infinite : situations one nought ((infinity, nought) ∷ (infinity, one) ∷ (neg infinity, one) ∷ (one, neg infinity) ∷ (one, infinity) ∷ (infinity, infinity) ∷ []) ≡ TurnOn ∷ Climb infinity ∷ BelowCritical ∷ TurnOn ∷ FallBack nought ∷ Climb nan ∷ []
unfolding situation_of absolute_of of_bits add sub mul div neg lt le
case_infinite = refl

-- below an infinite critical voltage is every finite one; above minus infinity every number is
case_infinite_critical : situations one infinity ((nine, one) ∷ (infinity, one) ∷ (nine, nan) ∷ []) ≡ BelowCritical ∷ Climb infinity ∷ BelowCritical ∷ []
unfolding situation_of absolute_of of_bits add sub mul div neg lt le
case_infinite_critical = refl

case_minus_infinite_critical : situations one (neg infinity) ((neg five, one) ∷ (neg five, nought) ∷ (neg infinity, one) ∷ []) ≡ FallBack (neg infinity) ∷ TurnOn ∷ FallBack (neg infinity) ∷ []
unfolding situation_of absolute_of of_bits add sub mul div neg lt le
case_minus_infinite_critical = refl

-- without a critical voltage, as with a saturation current below zero, no diode is below it
case_no_critical : situations one nan ((minus_one, five) ∷ (minus_one, neg five) ∷ (five, one) ∷ (two, one) ∷ []) ≡ FallBack nan ∷ TurnOn ∷ Climb five ∷ SmallStep ∷ []
unfolding situation_of absolute_of of_bits add sub mul div neg lt le
case_no_critical = refl

-- at a thermal voltage of 0 only no step at all is small; at an infinite one every step of finite numbers is, and at a NaN none
case_no_thermal : situations nought nan ((one, one) ∷ (two, one) ∷ (half, one) ∷ []) ≡ SmallStep ∷ Climb infinity ∷ FallBack nan ∷ []
unfolding situation_of absolute_of of_bits add sub mul div neg lt le
case_no_thermal = refl

case_infinite_thermal : situations infinity infinity ((nine, minus_one) ∷ (infinity, one) ∷ []) ≡ SmallStep ∷ SmallStep ∷ []
unfolding situation_of absolute_of of_bits add sub mul div neg lt le
case_infinite_thermal = refl

case_nan_thermal : situations nan nan ((one, one) ∷ (one, nought) ∷ []) ≡ Climb nan ∷ TurnOn ∷ []
unfolding situation_of absolute_of of_bits add sub mul div neg lt le
case_nan_thermal = refl

-- ---- with a critical voltage of the definition: at a thermal voltage of 1 and this saturation current it is 0.0

abbrev saturation : Float
saturation = of_bits binary64 0x3fe6_a09e_667f_3bcc

case_critical_zero : critical one saturation ≡ nought
unfolding critical ln_of ln_positive ln_answer ln_size ln_word z_word horner rounded packed count_leading_zeros of_bits size mul div
case_critical_zero = refl

-- there the voltages (2,0), (1,5), (3,0), (9,1) are limited to 2, to 0, to ln 3 and to 1 + ln 9
case_limited : map (λ (p : Float × Float). limited one (critical one saturation) p.0 p.1) ((two, nought) ∷ (one, five) ∷ (three, nought) ∷ (nine, one) ∷ []) ≡ two ∷ nought ∷ ln_of three ∷ (one ⊕ ln_of nine) ∷ []
unfolding limited critical absolute_of ln_of ln_positive ln_answer ln_size ln_word z_word horner rounded packed count_leading_zeros of_bits size add sub mul div neg lt le
case_limited = refl

-- at a thermal voltage of -1 the saturation current negated makes the critical voltage -0.0, and from 1 to 2 is a fall back to it
case_minus_zero : limited minus_one (critical minus_one (neg saturation)) two one ≡ minus_zero
unfolding limited critical absolute_of ln_of ln_positive ln_answer ln_size ln_word z_word horner rounded packed count_leading_zeros of_bits size add sub mul div neg lt le
case_minus_zero = refl

-- the order of turn-on and fall back shows: with a saturation current of 10, from 0 to -2.5 both conditions hold. It is a turn-on, whose logarithm has no value, and the run ends by 22
abbrev ten : Float
ten = of_bits binary64 0x4024_0000_0000_0000

abbrev minus_two_half : Float
minus_two_half = of_bits binary64 0xc004_0000_0000_0000

case_order_both : falling one minus_two_half nought ≡ true
unfolding of_bits add sub div le
case_order_both = refl

case_order : situation_of one (critical one ten) minus_two_half nought ≡ TurnOn
unfolding situation_of critical absolute_of ln_of ln_positive ln_answer ln_size ln_word z_word horner rounded packed count_leading_zeros of_bits size add sub mul div neg lt le
case_order = refl

case_order_ends : model_at nought ten one (limited one (critical one ten) minus_two_half nought) ≡ None
unfolding model_at limited critical absolute_of ln_of ln_positive ln_answer ln_size ln_word z_word horner rounded packed count_leading_zeros of_bits size add sub mul div neg lt le exp_of
case_order_ends = refl
