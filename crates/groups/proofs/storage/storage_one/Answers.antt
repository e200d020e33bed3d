-- `groups::storage::storage_one` meets its contract: a capacitor and an inductor have their stamps; any other kind writes nothing. Assumes nothing.
use Rattle.stamps.specs.Write.{stamped}
use Rattle.groups.specs.Storage.{storage_writes}
use Rattle.groups.specs.Laws.Quiet.{silent_storage}
use Rattle.groups.proofs.Tags.{not_stored}
use Rattle.groups.proofs.storage.storage_one.Goals as goal

pub returns-in_default : goal.returns-in_default
unfolding stamped
returns-in_default c = rw c.in_default.is

pub returns-in-C : goal.returns-in-C
unfolding storage_writes
returns-in-C c = rw (c.in-Ok.is, c.in-C.is) c.capacitor.ensures

pub returns-in-L : goal.returns-in-L
unfolding storage_writes
returns-in-L c = rw (c.in-Ok.is, c.in-L.is) (rw c.number_at.ensures at c.inductor.ensures)

pub returns-in_default-e : goal.returns-in_default-e
unfolding stamped
returns-in_default-e c =
    let a = c.args in
    rw (c.in-Ok.is, silent_storage a.p a.x.now a.memory.now a.i _ (not_stored a.p.transient _ c.in_default-e.not-C c.in_default-e.not-L))
