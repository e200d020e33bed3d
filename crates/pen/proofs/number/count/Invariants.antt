use Rattle.std.proofs.Common.{◌≡◌, ◌+◌, ◌≤◌}
use Rattle.pen.specs.Layout.{reached}
use Rattle.pen.proofs.number.count.Given as goal

abbrev pub invariant-loop-i : goal.invariant-loop-i
invariant-loop-i l = (l.k ≡ reached l.n l.i + 1) × (l.k ≤ l.i + 1)
