-- `stamps::stamp_voltage` meets its contract: its five calls are its five writes. Assumes nothing.
use Rattle.stamps.specs.Write.{stamped}
use Rattle.stamps.specs.Kinds.{voltage_writes}
use Rattle.stamps.proofs.stamp_voltage.Goals as goal

pub returns : goal.returns
unfolding stamped voltage_writes
returns c =
    let c5 = c.before.before in
    let c4 = c5.before.before.before.before in
    let c3 = c4.before.before.before.before in
    let c2 = c3.before.before.before.before in
    rw (c5.put_at-5.ensures, c4.put_at-4.ensures, c3.put_at-3.ensures, c2.put_at-2.ensures, c.put_at.ensures)
