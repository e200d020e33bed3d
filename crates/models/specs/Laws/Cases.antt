-- The bench's cases g, h and i, cases of a pattern with the option `pattern_first`, and cases of the diode's rules that need no exponential, each by computing the definitions.
use Rattle.std.specs.Prelude.{◌≡◌, refl, false, List, [], ◌∷◌, map, Float}
use Rattle.std.specs.Float.{nan, binary64}
use Rattle.std.specs.Float.Ieee.{of_bits, add, sub, mul, div, rem, neg, lt, le, fits, is_nan}
use Rattle.num.specs.Floats.{nought, absolute_of}
use Rattle.models.specs.declared.vpwl.Point.{Point}
use Rattle.num.specs.Literals.{half, one, two, three, four, five, six, minus_two, minus_zero, infinity}
use Rattle.models.specs.Vpwl.{pattern_at, pattern_first_at, level_at, level_on, last_of, between, or_zero}
use Rattle.models.specs.Laws.Rising.{Rising}
use Rattle.models.specs.Laws.First.{never_nan}
use Rattle.models.specs.Capacitor.{companion_of}
use Rattle.models.specs.Inductor.{conductance_of, current_after}
use Rattle.models.specs.Diode.{limited, floored}

abbrev point : Float → Float → Point
point t v = record { time = t; level = v }

abbrev seven : Float
seven = of_bits binary64 0x401c_0000_0000_0000

abbrev forty_nine : Float
forty_nine = of_bits binary64 0x4048_8000_0000_0000

abbrev ninety_eight : Float
ninety_eight = of_bits binary64 0x4058_8000_0000_0000

abbrev highest : Float
highest = of_bits binary64 0x7fef_ffff_ffff_ffff

abbrev below_one : Float
below_one = of_bits binary64 0x3fef_ffff_ffff_ffff

-- "g: points (0,0), (1,4), repeat -1: 0.5 gives 2, 1 gives 0, 2 gives 4, -0.5 gives 0"
case_g : map (pattern_at (point nought nought ∷ point one four ∷ []) nought (neg one)) (half ∷ one ∷ two ∷ neg half ∷ []) ≡ two ∷ nought ∷ four ∷ nought ∷ []
unfolding pattern_at level_at level_on last_of between or_zero of_bits add sub mul div rem neg lt is_nan
case_g = refl

-- "h: first point (0,3), then (1,4): time 0 gives NaN", whether it repeats or not
case_h : map (λ (r : Float). pattern_at (point nought three ∷ point one four ∷ []) nought r nought) (neg one ∷ nought ∷ []) ≡ nan ∷ nan ∷ []
unfolding pattern_at level_at level_on last_of between or_zero of_bits add sub mul div rem neg lt is_nan
case_h = refl

-- 2.5 cycles on: without repeat the last level; a repeat of 1, of -0.0 or of NaN, none of them below zero, gives half the cycle
case_repeat : map (λ (r : Float). pattern_at (point nought nought ∷ point one four ∷ []) nought r (add binary64 two half)) (neg one ∷ one ∷ neg nought ∷ nan ∷ []) ≡ four ∷ two ∷ two ∷ two ∷ []
unfolding pattern_at level_at level_on last_of between or_zero of_bits add sub mul div rem neg lt is_nan
case_repeat = refl

-- ---- with the option `pattern_first`

-- case g with it: 1, the end, gives 4
case_g_first : map (pattern_first_at (point nought nought ∷ point one four ∷ []) nought (neg one)) (half ∷ one ∷ two ∷ neg half ∷ []) ≡ two ∷ four ∷ four ∷ nought ∷ []
unfolding pattern_first_at pattern_at level_at level_on last_of between or_zero of_bits add sub mul div rem neg lt le is_nan
case_g_first = refl

-- case h with it: time 0 gives 3, whether it repeats or not
case_h_first : map (λ (r : Float). pattern_first_at (point nought three ∷ point one four ∷ []) nought r nought) (neg one ∷ nought ∷ []) ≡ three ∷ three ∷ []
unfolding pattern_first_at pattern_at level_at level_on last_of between or_zero of_bits add sub mul div rem neg lt le is_nan
case_h_first = refl

-- "first point (0,3), then (1,4)", without repeat: 3 at its start, 3.5 halfway, 4 at its end
case_from_three : map (pattern_first_at (point nought three ∷ point one four ∷ []) nought (neg one)) (nought ∷ half ∷ one ∷ []) ≡ three ∷ of_bits binary64 0x400c_0000_0000_0000 ∷ four ∷ []
unfolding pattern_first_at pattern_at level_at level_on last_of between or_zero of_bits add sub mul div rem neg lt le is_nan
case_from_three = refl

-- with a repeat of -0.0, which is not below zero, its end is the next cycle's start
case_minus_zero : pattern_first_at (point nought three ∷ point one four ∷ []) nought minus_zero one ≡ three
unfolding pattern_first_at pattern_at level_at level_on last_of between or_zero of_bits add sub mul div rem neg lt le is_nan
case_minus_zero = refl

-- a first point later than 0: its level holds from 0 on; 0, 1.5 and 2 give 3, 4 and 5
case_late : map (pattern_first_at (point one three ∷ point two five ∷ []) nought (neg one)) (nought ∷ add binary64 one half ∷ two ∷ []) ≡ three ∷ four ∷ five ∷ []
unfolding pattern_first_at pattern_at level_at level_on last_of between or_zero of_bits add sub mul div rem neg lt le is_nan
case_late = refl

-- repeating, a single point at a time below zero: its level
case_single : pattern_first_at (point minus_two seven ∷ []) nought one half ≡ seven
unfolding pattern_first_at pattern_at level_at level_on last_of between or_zero of_bits add sub mul div rem neg lt le is_nan
case_single = refl

-- repeating with a last time of 0.0: the cycle time is a NaN, and the first level holds
case_no_length : pattern_first_at (point nought three ∷ point nought four ∷ []) nought one half ≡ three
unfolding pattern_first_at pattern_at level_at level_on last_of between or_zero of_bits add sub mul div rem neg lt le is_nan
case_no_length = refl

-- the end is a rounded sum: 0.39 + 1.4 rounds up, so the float below it is not at the end, though less the delay it is 1.4
case_rounded_end : pattern_first_at (point nought three ∷ point (of_bits binary64 0x3ff6_6666_6666_6666) four ∷ []) (of_bits binary64 0x3fd8_f5c2_8f5c_28f6) (neg one) (of_bits binary64 0x3ffc_a3d7_0a3d_70a3) ≡ three
unfolding pattern_first_at pattern_at level_at level_on last_of between or_zero of_bits add sub mul div rem neg lt le is_nan
case_rounded_end = refl

-- in between today's line, which may miss a point by rounding: at the point (49,1) the float below 1, with the option and without
case_line : map (λ (f : List Point → Float → Float → Float → Float). f (point nought nought ∷ point forty_nine one ∷ point ninety_eight one ∷ []) nought (neg one) forty_nine) (pattern_at ∷ pattern_first_at ∷ []) ≡ below_one ∷ below_one ∷ []
unfolding pattern_first_at pattern_at level_at level_on last_of between or_zero of_bits add sub mul div rem neg lt le is_nan
case_line = refl

-- the points of case h meet the premise of the promises
case_rising : Rising (point nought three) (point one four ∷ [])
unfolding of_bits lt
case_rising = record { first = record { time = tt; level = tt }; start = refl; climbing = (refl, record { time = tt; level = tt }, tt) }

-- so with the option they give no NaN at any time, under any delay and repeat
case_h_never : (delay repeat t : Float) → is_nan (pattern_first_at (point nought three ∷ point one four ∷ []) delay repeat t) ≡ false
unfolding of_bits fits
case_h_never delay repeat t = never_nan (point nought three) (point one four ∷ []) (tt, (tt, tt)) case_rising delay repeat t

-- not promised: times that do not rise run too; (0,3), (-1,4) ends before it starts, so without repeat every time from 0 on has the last level
case_falling : map (pattern_first_at (point nought three ∷ point (neg one) four ∷ []) nought (neg one)) (nought ∷ half ∷ []) ≡ four ∷ four ∷ []
unfolding pattern_first_at pattern_at level_at level_on last_of between or_zero of_bits add sub mul div rem neg lt le is_nan
case_falling = refl

-- not promised: a finite level; halfway from the lowest float to the highest the slope overflows
case_steep : pattern_first_at (point nought (neg highest) ∷ point one highest ∷ []) nought (neg one) half ≡ infinity
unfolding pattern_first_at pattern_at level_at level_on last_of between or_zero of_bits add sub mul div rem neg lt le is_nan
case_steep = refl

-- not promised: levels that are not finite; halfway from 3 to infinity is infinity, and from infinity to 3 a NaN
case_infinite : map (λ (ps : List Point). pattern_first_at ps nought (neg one) half) ((point nought three ∷ point one infinity ∷ []) ∷ (point nought infinity ∷ point one three ∷ []) ∷ []) ≡ infinity ∷ nan ∷ []
unfolding pattern_first_at pattern_at level_at level_on last_of between or_zero of_bits add sub mul div rem neg lt le is_nan
case_infinite = refl

-- not promised: a first time below zero; from the lowest float to the highest at level 3, the time since the first overflows at 2 ^ 1023, and a slope of 0 times infinity is a NaN
case_overflow : pattern_first_at (point (neg highest) three ∷ point highest three ∷ []) nought (neg one) (of_bits binary64 0x7fe0_0000_0000_0000) ≡ nan
unfolding pattern_first_at pattern_at level_at level_on last_of between or_zero of_bits add sub mul div rem neg lt le is_nan
case_overflow = refl

-- "i: C 1, step 0.5, 3 V: g 2, i 6"
case_i : companion_of one three half ≡ record { g = two; i = six }
unfolding companion_of of_bits div mul
case_i = refl

-- an inductor of half a henry through a step of 1 is a conductance of 2; with 3 volts across it at the step's end its current goes from 1 to 7
case_inductor : map (λ (f : Float → Float). f three) (mul binary64 (conductance_of half one) ∷ (λ (v : Float). current_after half one v one) ∷ []) ≡ six ∷ seven ∷ []
unfolding conductance_of current_after of_bits add mul div
case_inductor = refl

-- 0 henries: no number is trapped, an infinite conductance stands for them
case_no_henries : conductance_of nought one ≡ infinity
unfolding conductance_of of_bits div
case_no_henries = refl

-- "a step of exactly two thermal voltages passes": thermal voltage 1, critical 0, from 1 to 3
case_two_passes : limited one nought three one ≡ three
unfolding limited absolute_of of_bits add sub mul div neg lt le
case_two_passes = refl

-- below the critical voltage any step passes: thermal voltage 1, critical 4, from -4 to 3
case_below_critical : limited one four three (neg four) ≡ three
unfolding limited absolute_of of_bits add sub mul div neg lt le
case_below_critical = refl

-- an argument of exactly 0 gives the critical voltage: thermal voltage -1, critical 0, from 1 to 2
case_argument : limited (neg one) nought two one ≡ nought
unfolding limited absolute_of of_bits add sub mul div neg lt le
case_argument = refl

-- "Conductance below GMIN becomes GMIN": below, at and above it, and a NaN
case_floor : map (floored two) (one ∷ two ∷ three ∷ nan ∷ []) ≡ two ∷ two ∷ three ∷ nan ∷ []
unfolding floored of_bits lt
case_floor = refl
