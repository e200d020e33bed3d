-- Below 2^-1022 the bit itself is the number; from there on the exponent's field, one digit below its leading one.
use Rattle.std.proofs.Common.{◌≡◌, ℕ, ◌+◌, ◌-◌, ◌*◌, ◌/◌, ◌%◌, ◌^◌, ◌<◌, ◌≤◌, Bool, false, sym, ap, ◌∙◌, subst, arith, mod-eq_of_lt, mul-one, nat_le}
use borrow.Author.Tests.{lt-leb}
use lib.Pow.{pow-add, pow-lt}
use Rattle.std.specs.Float.{binary64}
use Rattle.std.specs.Float.Ieee.{of_bits}
use Rattle.std.specs.Float.Ieee.Exact.{HasValue}
use Rattle.functions.specs.Laws.Bits64.{subnormal, put_together, no_nan}
use Rattle.remainder.proofs.Value.{shifted}
use Rattle.remainder.proofs.unit.Goals as goal

few : (b : ℕ) → b < 2 ^ 52 → HasValue (of_bits binary64 b) false b (2 ^ 1074)
few b h =
    subst (λ (s : Bool). HasValue (of_bits binary64 b) s b (2 ^ 1074)) plain
    (subst (λ (n : ℕ). HasValue (of_bits binary64 b) (nat_le (2 ^ 63) b) n (2 ^ 1074)) (mul-one (b % 2 ^ 52) ∙ mod-eq_of_lt h) (subnormal b field))
  where
    plain : nat_le (2 ^ 63) b ≡ false
    plain = lt-leb (2 ^ 63) b (omega arith)

    field : b % 2 ^ 63 / 2 ^ 52 ≡ 0
    field = omega arith

apart : (p : ℕ) → 52 ≤ p → p ≤ 2045 → HasValue (of_bits binary64 ((p - 51) * 2 ^ 52)) false (2 ^ p) (2 ^ 1074)
apart p h g =
    subst (λ (n : ℕ). HasValue (of_bits binary64 n) false (2 ^ p) (2 ^ 1074)) (omega arith)
    (subst (λ (n : ℕ). HasValue (of_bits binary64 ((p - 52) * 2 ^ 52 + 2 ^ 52)) false n (2 ^ 1074)) (sym (pow-add 2 52 (p - 52)) ∙ ap (λ (n : ℕ). 2 ^ n) (omega arith)) (put_together (p - 52) (2 ^ 52) (omega arith) (omega arith) (omega arith)))

pub returns-then-place-lt52 : goal.returns-then-place-lt52
returns-then-place-lt52 c =
    let e = shifted c.args.place (omega arith) in
    rw e (few (2 ^ c.args.place) (pow-lt {i = c.args.place} {j = 52} (omega arith)))

pub returns : goal.returns
returns c = apart c.args.place (omega arith) c.requires

pub float_from_bits-result : goal.float_from_bits-result
float_from_bits-result c =
    let e = shifted c.args.place (omega arith) in
    rw e (no_nan (2 ^ c.args.place) false (2 ^ c.args.place) (2 ^ 1074) (few (2 ^ c.args.place) (pow-lt {i = c.args.place} {j = 52} (omega arith))))

pub float_from_bits-result-2 : goal.float_from_bits-result-2
float_from_bits-result-2 c = no_nan ((c.args.place - 51) * 2 ^ 52) false (2 ^ c.args.place) (2 ^ 1074) (apart c.args.place (omega arith) c.requires)
