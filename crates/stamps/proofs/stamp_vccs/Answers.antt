-- `stamps::stamp_vccs` meets its contract: its four calls are its four writes. Assumes nothing.
use Rattle.stamps.specs.Write.{stamped}
use Rattle.stamps.specs.Kinds.{vccs_writes}
use Rattle.stamps.proofs.stamp_vccs.Goals as goal

pub returns : goal.returns
unfolding stamped vccs_writes
returns c =
    let c4 = c.before.before in
    let c3 = c4.before.before.before.before in
    let c2 = c3.before.before.before.before in
    rw (c4.add_at-4.ensures, c3.add_at-3.ensures, c2.add_at-2.ensures, c.add_at.ensures)
