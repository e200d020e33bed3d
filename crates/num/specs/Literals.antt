-- Small floats that definitions and worked cases name, each once. 0.0 is `nought` of Floats. Clients cite every name.
use Rattle.std.specs.Prelude.{Float}
use Rattle.std.specs.Float.{binary64}
use Rattle.std.specs.Float.Ieee.{of_bits}

abbrev pub tenth : Float
tenth = of_bits binary64 0x3fb9_9999_9999_999a

abbrev pub half : Float
half = of_bits binary64 0x3fe0_0000_0000_0000

abbrev pub one : Float
one = of_bits binary64 0x3ff0_0000_0000_0000

abbrev pub two : Float
two = of_bits binary64 0x4000_0000_0000_0000

abbrev pub three : Float
three = of_bits binary64 0x4008_0000_0000_0000

abbrev pub four : Float
four = of_bits binary64 0x4010_0000_0000_0000

abbrev pub five : Float
five = of_bits binary64 0x4014_0000_0000_0000

abbrev pub six : Float
six = of_bits binary64 0x4018_0000_0000_0000

abbrev pub minus_half : Float
minus_half = of_bits binary64 0xbfe0_0000_0000_0000

abbrev pub minus_one : Float
minus_one = of_bits binary64 0xbff0_0000_0000_0000

abbrev pub minus_two : Float
minus_two = of_bits binary64 0xc000_0000_0000_0000

abbrev pub minus_zero : Float
minus_zero = of_bits binary64 0x8000_0000_0000_0000

-- 2 ^ -1000 and 2 ^ 1000
abbrev pub tiny : Float
tiny = of_bits binary64 0x0170_0000_0000_0000

abbrev pub huge : Float
huge = of_bits binary64 0x7e70_0000_0000_0000

abbrev pub infinity : Float
infinity = of_bits binary64 0x7ff0_0000_0000_0000
