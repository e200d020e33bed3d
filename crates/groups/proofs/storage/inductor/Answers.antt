-- `groups::storage::inductor` meets its contract: in a step its companion, at DC a short. Assumes nothing.
use Rattle.groups.specs.Storage.{inductor_in}
use Rattle.groups.proofs.storage.inductor.Goals as goal

pub returns-then-p : goal.returns-then-p
unfolding inductor_in
returns-then-p c = rw c.if-p.true (rw (c.conductance-g.ensures, c.row_of-s.ensures) at c.stamp_inductor.ensures)

pub returns : goal.returns
unfolding inductor_in
returns c = rw c.if-p.false (rw c.row_of-s.ensures at c.stamp_voltage.ensures)
