-- A float's field and digits, as the code takes them out of its bit pattern. Assumes nothing.
use Rattle.std.proofs.Common.{◌≡◌, ℕ, ◌*◌, ◌/◌, ◌%◌, ◌^◌, ◌<◌, T, sym, ap, ◌∙◌}
use lib.Bits.{bit_and, and_mask, mask_lt}
use lib.Pow as pow
use lib.Ieee.{Float, binary64, fits, to_bits}
use lib.Ieee.Scale.{finite}
use lib.Ieee.Positive.{num, den}
use Rattle.functions.specs.Words.{size_of}
use Rattle.functions.specs.Laws.Fields.{at_fields}

abbrev pub field_of : ℕ → ℕ
field_of b = bit_and (b / 2 ^ 52) 2047

abbrev pub digits_of : ℕ → ℕ
digits_of b = bit_and b 4503599627370495

pub field_is : (b : ℕ) → field_of b ≡ b % 2 ^ 63 / 2 ^ 52
field_is b = and_mask (b / 2 ^ 52) 11 ∙ sym (pow.field b 11 52)

pub digits_are : (b : ℕ) → digits_of b ≡ b % 2 ^ 52
digits_are b = and_mask b 52

pub digits_lt : (b : ℕ) → digits_of b < 2 ^ 52
digits_lt b = mask_lt b 52

pub size_is : (x : Float) → T (fits binary64 x) → T (finite x) → num x * 2 ^ 1074 ≡ size_of (field_of (to_bits binary64 x)) (digits_of (to_bits binary64 x)) * den x
size_is x F f =
    let b = to_bits binary64 x in
    (at_fields x F f).1 ∙ sym (ap (λ (a : ℕ). size_of a (digits_of b) * den x) (field_is b) ∙ ap (λ (a : ℕ). size_of (b % 2 ^ 63 / 2 ^ 52) a * den x) (digits_are b))
