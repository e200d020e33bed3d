-- `passes::run_held` meets its contract: the array is cut to the matrix's length. Assumes nothing.
use mathlib.Core.Path.{sym, ◌∙◌}
use lib.ListN.{length-replicate}
use lib.Seq.{length-take-le}
use Rattle.passes.proofs.Room.{holding}
use Rattle.passes.proofs.run_held.Goals as goal

pub run_passes-requires : goal.run_passes-requires
run_passes-requires g c =
    let z = c.requires in
    record { sized = z.sized; holder = holding _ _ _ _ _ z.sized z.listed (length-take-le _ _ (rw (length-replicate g.row.SIZE) z.room.0)) }
