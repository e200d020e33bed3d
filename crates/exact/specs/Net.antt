-- An exact number as one whole number with its sign, in units of 2 ^ -2148, and a finite float as one. Clients cite net and signed; Laws/Net.antt says that they add up. Definitions only.
use Rattle.std.specs.Prelude.{cond, ℤ, pos, ◌-ℤ◌, neg_ℤ, Float}
use Rattle.num.specs.Floats.{sign}
use Rattle.exact.specs.Exact.{Exact, size}

-- `plus` less `minus`
abbrev pub net : Exact → ℤ
net e = pos e.plus -ℤ pos e.minus

-- a finite float's size with its sign. "Finite floats are whole multiples of 2^-1074": the size is 2 ^ 1074 of these units for each (Laws/Net.antt, size-is)
abbrev pub signed : Float → ℤ
signed x = cond (sign x) (neg_ℤ (pos (size x))) (pos (size x))
