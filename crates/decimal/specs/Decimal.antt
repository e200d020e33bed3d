-- A float as decimal digits. Clients cite decimal_of, read_back and, in proofs/Laws/ReadBack.antt, the law that joins them. Definitions only.
use Rattle.std.specs.Prelude.{Bool, false, ◌&&◌, cond, ℕ, ◌+◌, ◌*◌, ◌/◌, ◌%◌, ◌^◌, eqb, leb, ltb, Float}
use Rattle.std.specs.Float.{nan, inf, binary64}
use Rattle.std.specs.Float.Ieee.{round, to_bits, is_nan}
use Rattle.decimal.specs.declared.Decimal.{Decimal}
use Rattle.decimal.specs.declared.Decimal.TheVariants.{Nan, Infinite, Finite}
use Rattle.decimal.specs.declared.shortest.Number.{Number}
use Rattle.decimal.specs.Scale.{place_of}
use Rattle.decimal.specs.Shortest.{span_of, number_of}

-- the sign, the exponent's field and the digits' field of 64 bits
abbrev pub sign_of : ℕ → Bool
sign_of bits = leb (2 ^ 63) bits

abbrev pub field_of : ℕ → ℕ
field_of bits = bits % 2 ^ 63 / 2 ^ 52

abbrev pub low_of : ℕ → ℕ
low_of bits = bits % 2 ^ 52

abbrev pub signed : Bool → Number → Decimal
signed minus n = Finite minus n.digits n.place

-- m steps at the exponent's field b
abbrev pub steps_of : Bool → ℕ → ℕ → Bool → Decimal
steps_of minus b m narrow = signed minus (number_of (span_of b m narrow) (place_of b) 18)

-- A field of 0 has no leading digit and counts as 1. Below a power of two that is no smallest one the floats are half as far apart.
unfoldable pub of_pattern : ℕ → Decimal
of_pattern bits =
    cond (eqb (field_of bits) 2047) (Infinite (sign_of bits))
    (cond (eqb (field_of bits) 0) (cond (eqb (low_of bits) 0) (Finite (sign_of bits) 0 326) (steps_of (sign_of bits) 1 (low_of bits) false))
    (steps_of (sign_of bits) (field_of bits) (2 ^ 52 + low_of bits) (eqb (low_of bits) 0 && ltb 1 (field_of bits))))

unfoldable pub decimal_of : Float → Decimal
decimal_of x = cond (is_nan x) Nan (of_pattern (to_bits binary64 x))

-- the float that is nearest to the number that is written, ties to even: what a reader makes of it
unfoldable pub read_back : Decimal → Float
read_back Nan = nan
read_back (Infinite minus) = inf minus
read_back (Finite minus digits place) = round binary64 minus (digits * 10 ^ place) (10 ^ 326)
