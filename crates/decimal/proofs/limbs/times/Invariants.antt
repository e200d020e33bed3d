-- What the loop of `decimal::limbs::times` keeps true.
use Prim.Native.Nat.{◌≤◌}
use lib.ListN.{length}
use Rattle.decimal.proofs.Value.{Raised}
use Rattle.decimal.proofs.limbs.times.Given as goal

abbrev pub invariant-loop-limb : goal.invariant-loop-limb
invariant-loop-limb l = (l.limb-index ≤ length l.initial.l) × Raised l.initial.l l.k l.limb-index l.carry l.l
