-- Decimal units for the floats of one exponent. A float whose exponent's field is b (a subnormal's counts as 1) is a whole number of steps of 2 ^ (b - 1075).
-- Its decimal unit is 10 ^ (place_of b - 326): a hundredth to a tenth of a quarter of the step. Clients cite place_of, cut_of, top and bottom.
use Rattle.std.specs.Prelude.{ℕ, ◌+◌, ◌*◌, ◌/◌, ◌%◌, ◌^◌, eqb}
use Rattle.decimal.specs.declared.scale.Cut.{Cut}

abbrev pub place_of : ℕ → ℕ
place_of b = (b * 30103 + 79069) / 100000

-- a quarter of the step over the unit is top / bottom
unfoldable pub top : ℕ → ℕ
top b = 2 ^ b * 10 ^ 326

unfoldable pub bottom : ℕ → ℕ
bottom b = 2 ^ 1077 * 10 ^ place_of b

-- a quarters of the step, in units: the whole part, and whether that is all
abbrev pub cut_of : ℕ → ℕ → Cut
cut_of b a = record { whole = a * top b / bottom b; even = eqb (a * top b % bottom b) 0 }
