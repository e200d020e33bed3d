-- What the loop of `mean::limbs::difference` keeps true.
use Rattle.std.proofs.Common.{◌≤◌}
use Rattle.std.specs.Int.{from_bool}
use Rattle.mean.proofs.Turns.{Lessened}
use Rattle.mean.proofs.limbs.difference.Given as goal

abbrev pub invariant-loop-i : goal.invariant-loop-i
invariant-loop-i l = (l.i ≤ 66) × Lessened l.a l.b l.r (from_bool l.borrow) l.i
