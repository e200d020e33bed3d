-- `mean::mean` meets its contract.
use Rattle.std.proofs.Common.{sym, ◌∙◌, le_of_lt, arith, leb-false, leb-true}
use Rattle.std.proofs.lemmas.Bool.Decides.{nat_tests}
use Rattle.mean.specs.Mean.{mean_of}
use Rattle.mean.specs.Laws.Mean.{mean_plus, mean_minus}
use Rattle.mean.proofs.mean.Goals as goal

pub returns-then-plus-ne-SUM_LIMBS : goal.returns-then-plus-ne-SUM_LIMBS
unfolding mean_of
returns-then-plus-ne-SUM_LIMBS c = grind (arith, nat_tests)

pub over_count-requires : goal.over_count-requires
over_count-requires c = (c.if-plus-ne-SUM_LIMBS.false, c.if-minus-ne-SUM_LIMBS.false, leb-true _ _ (sym c.at_most.ensures ∙ c.if-at_most.true), omega arith, omega arith)

pub returns-then-at_most : goal.returns-then-at_most
returns-then-at_most c = c.over_count.ensures ∙ sym (mean_plus _ _ c.args.count c.if-plus-ne-SUM_LIMBS.false c.if-minus-ne-SUM_LIMBS.false (omega arith) (omega arith) (leb-true _ _ (sym c.at_most.ensures ∙ c.if-at_most.true)))

pub over_count-requires-2 : goal.over_count-requires-2
over_count-requires-2 c = (c.if-minus-ne-SUM_LIMBS.false, c.if-plus-ne-SUM_LIMBS.false, le_of_lt (leb-false _ _ (sym c.at_most.ensures ∙ c.if-at_most.false)), omega arith, omega arith)

pub returns : goal.returns
returns c = c.over_count-2.ensures ∙ sym (mean_minus _ _ c.args.count c.if-plus-ne-SUM_LIMBS.false c.if-minus-ne-SUM_LIMBS.false (omega arith) (omega arith) (leb-false _ _ (sym c.at_most.ensures ∙ c.if-at_most.false)))
