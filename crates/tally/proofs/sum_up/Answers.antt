-- `tally::sum_up` meets its contract.
use mathlib.Core.Path.{sym, ◌∙◌}
use Rattle.tally.specs.Tally.{totals_after}
use Rattle.tally.specs.Laws.Ready.{ready_summable}
use Rattle.tally.proofs.sum_up.Goals as goal

pub add_up-requires : goal.add_up-requires
add_up-requires c = ready_summable _ _ _ _ _ _ _ (sym c.ready.ensures ∙ c.if-ready.true)

pub returns-then-ready : goal.returns-then-ready
unfolding totals_after
returns-then-ready c = rw (sym c.ready.ensures ∙ c.if-ready.true) c.add_up.ensures

pub returns : goal.returns
unfolding totals_after
returns c = rw (sym c.ready.ensures ∙ c.if-ready.false, c.nothing.ensures)
