-- `convergence::limit` meets its contract.
use Rattle.convergence.specs.Convergence.{limit}
use Rattle.convergence.proofs.limit.Goals as goal
use Rattle.convergence.proofs.limit.Goals.{then-node, else-node}

pub returns : goal.returns
unfolding limit
returns c =
    elim c.if-node.branch [
      | then-node w ↦ rw (w.least-is, w.if-node.true, c.absolute.ensures)
      | else-node w ↦ rw (w.least-is, w.if-node.false, c.absolute.ensures)
    ]
