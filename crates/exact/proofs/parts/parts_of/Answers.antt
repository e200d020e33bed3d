-- `exact::parts::parts_of` meets its contract.
use Rattle.std.proofs.Common.{◌≡◌, ℕ, suc, ◌-◌, ◌/◌, ◌%◌, ◌^◌, ◌<◌, not, T, arith}
use denote.Floats.{passes}
use lib.Ieee.{Float, nan, inf, fin, binary64, to_bits, fits, is_nan}
use lib.Ieee.Scale.{finite}
use Rattle.exact.specs.Laws.Units.{said_sign, said_units, subnormal, normal}
use Rattle.exact.proofs.parts.parts_of.Goals as goal

-- a finite float is a number
number : (x : Float) → T (finite x) → T (not (is_nan x))
unfolding is_nan
number nan h = absurd h
number (inf s) h = tt
number (fin s m e) h = tt

held : (c : goal.Start) → T (fits binary64 c.args.x)
held c = passes _ c.well_formed.0.1

pub float_to_bits-b : goal.float_to_bits-b
float_to_bits-b c = number c.args.x c.requires

pub returns-then-field-eq0 : goal.returns-then-field-eq0
returns-then-field-eq0 c =
    let x = c.args.x in
    let h = subnormal x (held c.before) c.requires (omega arith) in
    (said_units x _ _ _ h, h.small, said_sign x _ _ _ h)

pub returns : goal.returns
returns c =
    let x = c.args.x in
    let h = normal x (held c.before) c.requires (to_bits binary64 x % 2 ^ 63 / 2 ^ 52 - 1) (next (to_bits binary64 x % 2 ^ 63 / 2 ^ 52) (omega arith)) in
    (said_units x _ _ _ h, h.small, said_sign x _ _ _ h)
  where
    next : (a : ℕ) → 0 < a → a ≡ suc (a - 1)
    next a p = omega arith
