-- What the loop of `decimal::limbs::times_power` keeps true.
use Prim.Native.Nat.{◌*◌, ◌^◌, ◌≤◌}
use lib.ListN.{length}
use Rattle.decimal.specs.Limbs.{value, Holds}
use Rattle.decimal.proofs.limbs.times_power.Given as goal

abbrev pub invariant-loop-i : goal.invariant-loop-i
invariant-loop-i l = (l.i ≤ l.n) × Holds (length l.initial.l) l.l (value l.initial.l * l.k ^ l.i)
