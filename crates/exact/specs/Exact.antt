-- Exact numbers of floats, as whole numbers of units with a side for each sign. Clients cite units, size, Exact, none, times, whole, added, opposite, within. Definitions only.
use Rattle.std.specs.Prelude.{ℕ, ◌+◌, ◌*◌, ◌/◌, ◌^◌, Bool, cond, ◌&&◌, nat_le, Float}
use Rattle.std.specs.Float.Ieee.{unlike}
use Rattle.std.specs.Float.Ieee.Positive.{num, den}
use Rattle.num.specs.Floats.{sign}
use Rattle.num.specs.Literals.{one}

-- the size of a finite float in units of 2 ^ -1074. "Finite floats are whole multiples of 2^-1074": the quotient leaves nothing (Laws/Units.antt, units_exact)
unfoldable pub units : Float → ℕ
units x = num x * 2 ^ 1074 / den x

-- an exact number in units of 2 ^ -2148: `plus` less `minus`
pub record Exact : Type 0 where
  pub plus : ℕ
  pub minus : ℕ

abbrev pub none : Exact
none = record { plus = 0; minus = 0 }

-- a product of two finite floats. "Products of 2^-2148"
abbrev pub times : Float → Float → Exact
times x y = record {
  plus = cond (unlike (sign x) (sign y)) 0 (units x * units y);
  minus = cond (unlike (sign x) (sign y)) (units x * units y) 0;
}

-- a finite float: its product with 1.0
abbrev pub whole : Float → Exact
whole x = times x one

-- a finite float's size, in units of 2 ^ -2148
abbrev pub size : Float → ℕ
size x = units x * units one

abbrev pub added : Exact → Exact → Exact
added a b = record { plus = a.plus + b.plus; minus = a.minus + b.minus }

abbrev pub opposite : Exact → Exact
opposite a = record { plus = a.minus; minus = a.plus }

-- the exact number's size is at most t's: neither side exceeds the other by more
abbrev pub within : Exact → Float → Bool
within e t = nat_le e.plus (e.minus + size t) && nat_le e.minus (e.plus + size t)
