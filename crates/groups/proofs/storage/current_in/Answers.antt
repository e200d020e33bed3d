-- `groups::storage::current_in` meets its contract: the formula of a step, or the unknown of its row. Assumes nothing.
use Rattle.groups.specs.Storage.{current_in}
use Rattle.groups.proofs.storage.current_in.Goals as goal

pub returns-then-p : goal.returns-then-p
unfolding current_in
returns-then-p c = rw c.if-p.true (rw c.across.ensures at c.current.ensures)

pub returns : goal.returns
unfolding current_in
returns c = rw c.if-p.false (rw c.row_of.ensures at c.number_at.ensures)
