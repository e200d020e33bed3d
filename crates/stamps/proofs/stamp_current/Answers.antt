-- `stamps::stamp_current` meets its contract: its two calls are its two writes. Assumes nothing.
use Rattle.stamps.specs.Write.{stamped}
use Rattle.stamps.specs.Kinds.{current_writes}
use Rattle.stamps.proofs.stamp_current.Goals as goal

pub returns : goal.returns
unfolding stamped current_writes
returns c =
    let c2 = c.before.before in
    rw (c2.add_at-2.ensures, c.add_at.ensures)
