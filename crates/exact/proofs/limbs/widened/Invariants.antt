-- The invariant of `exact::limbs::widened`: the limbs before i are copied, the others are still 0.
use Rattle.std.proofs.Common.{◌≡◌, ◌≤◌, ◌++◌, length, take, drop, replicate}
use Rattle.exact.proofs.limbs.widened.Given as goal

abbrev pub invariant-loop-i : goal.invariant-loop-i
invariant-loop-i l = (l.i ≤ length l.l) × (length l.r ≡ 67) × (l.r ≡ take l.i l.l ++ drop l.i (replicate 67 0))
