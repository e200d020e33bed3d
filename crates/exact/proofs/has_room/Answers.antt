-- `exact::has_room` meets its contract.
use Rattle.exact.proofs.Room.{top_limb}
use Rattle.exact.proofs.has_room.Goals as goal

pub returns : goal.returns
returns c = top_limb c.args.l.now c.requires (λ j. (c.shared_slice_known-1.given j).fits)
