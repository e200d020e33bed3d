-- `functions::ln` meets its contract. Assumes nothing.
use Rattle.std.proofs.Common.{sym, ◌∙◌}
use lib.Ieee.{div, of_bits, neg}
use Rattle.functions.proofs.Laws.Bounds.{ln_sum}
use Rattle.functions.proofs.Ends.{is_positive, ln_infinity, ln_zero, ln_none}
use Rattle.functions.proofs.ln.Goals as goal

pub returns-then-x-2 : goal.returns-then-x-2
unfolding div of_bits
returns-then-x-2 c = ln_infinity c.args.x c.if-x-2.true

pub ln_positive-requires : goal.ln_positive-requires
unfolding div of_bits
ln_positive-requires c = is_positive c.args.x c.if-x.true c.if-x-2.false

pub returns-then-x : goal.returns-then-x
unfolding div of_bits
returns-then-x c = let x = c.args.x in c.ln_positive.ensures ∙ sym (ln_sum x (is_positive x c.if-x.true c.if-x-2.false))

pub returns-then-x-3 : goal.returns-then-x-3
unfolding div of_bits neg
returns-then-x-3 c = ln_zero c.args.x c.if-x-3.true

pub returns : goal.returns
unfolding div of_bits
returns c = ln_none c.args.x c.if-x.false c.if-x-3.false
