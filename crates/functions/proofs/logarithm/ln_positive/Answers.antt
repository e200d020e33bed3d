-- `functions::logarithm::ln_positive` meets its contract. Assumes nothing.
use Rattle.std.proofs.Common.{◌≡◌, ℕ, ◌*◌, ◌^◌, ◌<◌, ◌≤◌, T, sym, ◌∙◌, subst, arith}
use lib.Ieee.{binary64, fits, to_bits}
use lib.Ieee.Positive.{num, den, positive-finite}
use Rattle.functions.specs.Laws.Fields.{number, field_under, some_size}
use Rattle.functions.specs.Laws.Leading.{in_range, answer_is}
use Rattle.functions.specs.Words.{size_of}
use Rattle.functions.proofs.Bits.{field_of, digits_of, field_is, digits_lt, size_is}
use Rattle.functions.proofs.logarithm.ln_positive.Goals as goal

fit : (c : goal.Start) → T (fits binary64 c.args.x)
fit c = subst T (sym c.well_formed.0.1) tt

size : (c : goal.Start) → num c.args.x * 2 ^ 1074 ≡ size_of (field_of (to_bits binary64 c.args.x)) (digits_of (to_bits binary64 c.args.x)) * den c.args.x
size c = size_is c.args.x (fit c) (positive-finite c.args.x c.requires)

pub float_to_bits-b : goal.float_to_bits-b
float_to_bits-b c = number c.args.x (positive-finite c.args.x c.requires)

pub leading-l-requires : goal.leading-l-requires
leading-l-requires c =
    let x = c.args.x in
    let b = to_bits binary64 x in
    (few (field_of b) (subst (λ (n : ℕ). n < 2047) (sym (field_is b)) (field_under x (fit c) (positive-finite x c.requires))), digits_lt b, some_size x (field_of b) (digits_of b) c.requires (size c))
  where
    few : (n : ℕ) → n < 2047 → n ≤ 2046
    few n h = omega arith

pub ln_answer-requires : goal.ln_answer-requires
ln_answer-requires c = let l = c.leading-l.ensures in (l.few, in_range c.leading-l.result.q l.least l.most)

pub returns : goal.returns
returns c =
    let at = c.before in
    let x = at.args.x in
    let b = to_bits binary64 x in
    c.ln_answer.ensures ∙ sym (answer_is x (size_of (field_of b) (digits_of b)) at.leading-l.result.q at.leading-l.result.c (size at.before.before) at.leading-l.ensures)
