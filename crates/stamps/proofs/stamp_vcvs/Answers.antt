-- `stamps::stamp_vcvs` meets its contract: its six calls are its six writes. Assumes nothing.
use Rattle.stamps.specs.Write.{stamped}
use Rattle.stamps.specs.Kinds.{vcvs_writes}
use Rattle.stamps.proofs.stamp_vcvs.Goals as goal

pub returns : goal.returns
unfolding stamped vcvs_writes
returns c =
    let c6 = c.before.before in
    let c5 = c6.before.before.before.before in
    let c4 = c5.before.before.before.before in
    let c3 = c4.before.before.before.before in
    let c2 = c3.before.before.before.before in
    rw (c6.add_at-6.ensures, c5.add_at-5.ensures, c4.add_at-4.ensures, c3.add_at-3.ensures, c2.add_at-2.ensures, c.add_at.ensures)
