-- `functions::exp` meets its contract. Assumes nothing.
use Rattle.std.proofs.Common.{◌≡◌, true, T, sym, subst}
use lib.Ieee.{Float, ne, of_bits, neg, div}
use lib.Ieee.Compare.{differs_from_itself}
use Rattle.functions.specs.Exp.{exp_of}
use Rattle.functions.specs.Laws.Values.{exp_nan, exp_above, exp_below}
use Rattle.functions.specs.Laws.Fields.{no_nan_of}
use Rattle.functions.proofs.exp.Goals as goal

at-nan : (x : Float) → ne x x ≡ true → x ≡ exp_of x
at-nan x h = subst (λ (y : Float). y ≡ exp_of y) (sym (differs_from_itself x (subst T (sym h) tt))) (sym exp_nan)

pub returns-then-x : goal.returns-then-x
returns-then-x c = at-nan c.args.x c.if-x.true

pub returns-then-x-2 : goal.returns-then-x-2
unfolding of_bits div
returns-then-x-2 c = sym (exp_above c.args.x c.if-x-2.true)

pub returns-then-x-3 : goal.returns-then-x-3
unfolding of_bits neg
returns-then-x-3 c = sym (exp_below c.args.x c.if-x-2.false c.if-x-3.true)

pub exp_near-requires : goal.exp_near-requires
unfolding of_bits neg
exp_near-requires c = record { number = no_nan_of c.args.x c.if-x.false; most = c.if-x-2.false; least = c.if-x-3.false }

pub returns : goal.returns
returns c = c.exp_near.ensures
