-- `functions::reduce::reduction` meets its contract. Assumes nothing.
use Rattle.std.proofs.Common.{ℕ, ◌<◌, ◌≤◌, T, sym, subst, arith}
use lib.Ieee.{binary64, fits, to_bits}
use lib.Ieee.Positive.{num, den, den_pos}
use Rattle.functions.specs.Laws.Fields.{number, field_most, units_below}
use Rattle.functions.proofs.Bits.{field_of, digits_of, digits_lt, size_is}
use Rattle.functions.proofs.reduce.reduction.Goals as goal

fit : (c : goal.Start) → T (fits binary64 c.args.x)
fit c = subst T (sym c.well_formed.1.0.1) tt

pub float_to_bits-b : goal.float_to_bits-b
float_to_bits-b c = number c.args.x c.requires.2

pub reduced-requires : goal.reduced-requires
reduced-requires c =
    let x = c.args.x in
    let b = to_bits binary64 x in
    (c.requires.0, c.requires.1, few (field_of b) (field_most (num x) (den x) (field_of b) (digits_of b) 1043 (units_below (num x) (den x) 21 c.requires.3) (size_is x (fit c) c.requires.2)), digits_lt b)
  where
    few : (n : ℕ) → n < 1044 → n ≤ 1043
    few n h = omega arith

pub returns : goal.returns
returns c = let x = c.args.x in c.reduced.ensures (num x) (den x) (den_pos x) (size_is x (fit c.before) c.requires.2)
