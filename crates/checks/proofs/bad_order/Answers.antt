-- `checks::bad_order` meets its contract. Assumes nothing.
use mathlib.Core.Path.{sym}
use Rattle.checks.specs.Laws.Checks.{order_above, order_below}
use Rattle.checks.proofs.bad_order.Goals as goal

pub returns-then-nodes-gt-UNKNOWNS : goal.returns-then-nodes-gt-UNKNOWNS
returns-then-nodes-gt-UNKNOWNS c = sym (order_above _ _ c.if-nodes-gt-UNKNOWNS.true)

pub returns : goal.returns
returns c = sym (order_below _ _ c.if-nodes-gt-UNKNOWNS.false)
