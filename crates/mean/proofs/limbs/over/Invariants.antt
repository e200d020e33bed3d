-- What the loop of `mean::limbs::over` keeps true.
use Rattle.std.proofs.Common.{◌≤◌, length}
use Rattle.mean.proofs.Turns.{Lowered}
use Rattle.mean.proofs.limbs.over.Given as goal

abbrev pub invariant-loop-i : goal.invariant-loop-i
invariant-loop-i l = (l.i ≤ length l.initial.l) × Lowered l.initial.l l.d l.i l.left l.l
