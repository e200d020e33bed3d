-- `spreads::refusals::outside` meets its contract.
use mathlib.Core.Path.{sym}
use Rattle.spreads.specs.Laws.Refusals.{below_nodes, past_nodes}
use Rattle.spreads.proofs.refusals.outside.Goals as goal

pub returns-then-unknown-nodes : goal.returns-then-unknown-nodes
returns-then-unknown-nodes c = sym (below_nodes _ _ _ c.if-unknown-nodes.true)

pub returns : goal.returns
returns c = past_nodes _ _ _ c.if-unknown-nodes.false
