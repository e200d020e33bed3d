-- The sinusoidal sources. Clients cite sine_at, Numbers and numbers_of.
use Rattle.std.specs.Prelude.{ℕ, Option, Some, None, Float}
use Rattle.std.specs.Float.{binary64}
use Rattle.std.specs.Float.Ieee.{of_bits}
use Rattle.numbers.specs.Verdicts.{settled, sine_refused}
use Rattle.num.specs.Floats.{nought}
use Rattle.functions.specs.Sin.{sin_of}
use Rattle.models.specs.Signs.{◌⊕◌, ◌⊗◌}
use Rattle.num.specs.Literals.{two}

abbrev pub PI : Float
PI = of_bits binary64 0x4009_21fb_5444_2d18

-- the level that a sine makes: vo + va * sin; "sine refused by 12" where it makes none
unfoldable pub level_of : Float → Float → Option Float → Option Float
level_of vo va (Some y) = Some (vo ⊕ va ⊗ y)
level_of vo va None = None

-- the level at time t, the sine's argument being ((2.0 * PI) * freq) * t
unfoldable pub sine_at : Float → Float → Float → Float → Option Float
sine_at vo va freq t = level_of vo va (sin_of (two ⊗ PI ⊗ freq ⊗ t))

-- the numbers of an answer: the verdict, and the level, 0.0 if refused
pub record Numbers : Type 0 where
  pub verdict : ℕ
  pub value : Float

-- "26 sine refused by 12"
abbrev pub numbers_of : Option Float → Numbers
numbers_of (Some x) = record { verdict = settled; value = x }
numbers_of None = record { verdict = sine_refused; value = nought }
