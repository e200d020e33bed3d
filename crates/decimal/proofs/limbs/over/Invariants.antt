-- What the loop of `decimal::limbs::over` keeps true.
use Prim.Native.Nat.{◌≤◌}
use lib.ListN.{length}
use Rattle.decimal.proofs.Value.{Lowered}
use Rattle.decimal.proofs.limbs.over.Given as goal

abbrev pub invariant-loop-i : goal.invariant-loop-i
invariant-loop-i l = (l.i ≤ length l.initial.l) × Lowered l.initial.l l.d l.i l.left l.l
