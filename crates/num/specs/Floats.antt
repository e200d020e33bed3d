-- What the floats' small functions mean. Clients cite nought, sign and absolute_of; `finite` is lib.Ieee.Scale's.
use Rattle.std.specs.Prelude.{Bool, false}
use lib.Ieee.{Float, nan, inf, fin, binary64, of_bits}

-- 0.0
abbrev pub nought : Float
nought = of_bits binary64 0

-- whether a float stands with a minus
abbrev pub sign : Float → Bool
sign nan = false
sign (inf s) = s
sign (fin s m e) = s

-- |x|: the sign is cleared, of a zero too; a NaN stays
unfoldable pub absolute_of : Float → Float
absolute_of nan = nan
absolute_of (inf s) = inf false
absolute_of (fin s m e) = fin false m e
