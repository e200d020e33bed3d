-- `groups::storage::capacitor` meets its contract: in a step one stamp, at DC none. Assumes nothing.
use Rattle.stamps.specs.Write.{stamped}
use Rattle.groups.specs.Storage.{capacitor_in}
use Rattle.groups.proofs.storage.capacitor.Goals as goal

pub returns-then-p : goal.returns-then-p
unfolding capacitor_in
returns-then-p c = rw c.if-p.true (rw (c.linearize-c.ensures, c.across.ensures) at c.stamp_capacitor.ensures)

pub returns-else-p : goal.returns-else-p
unfolding capacitor_in stamped
returns-else-p c = rw c.if-p.false
