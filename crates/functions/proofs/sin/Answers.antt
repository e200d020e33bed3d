-- `functions::sin` meets its contract. Assumes nothing.
use Rattle.std.proofs.Common.{sym, ap, ◌∙◌, Some}
use lib.Ieee.{of_bits, neg}
use Rattle.functions.proofs.Ends.{sin_above, sin_below, sin_nan, sin_in_range}
use Rattle.functions.proofs.Laws.SinLaw.{in_range}
use Rattle.functions.proofs.sin.Goals as goal

pub returns-then-x : goal.returns-then-x
unfolding of_bits
returns-then-x c = c.sin_far.ensures ∙ sin_above c.args.x c.if-x.true

pub returns-then-x-2 : goal.returns-then-x-2
unfolding of_bits neg
returns-then-x-2 c = c.sin_far-then-x-2.ensures ∙ sin_below c.args.x c.if-x-2.true

pub returns-then-x-3 : goal.returns-then-x-3
returns-then-x-3 c = sin_nan c.args.x c.if-x-3.true

pub sin_near-requires : goal.sin_near-requires
unfolding of_bits neg
sin_near-requires c = sin_in_range c.args.x c.if-x-3.false c.if-x.false c.if-x-2.false

pub returns : goal.returns
unfolding of_bits neg
returns c =
    let x = c.args.x in
    ap Some c.sin_near.ensures ∙ sym (in_range x (sin_in_range x c.if-x-3.false c.if-x.false c.if-x-2.false))
