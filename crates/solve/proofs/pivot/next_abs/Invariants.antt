-- What the loop of `solve::pivot::next_abs` keeps true.
use Rattle.std.proofs.Common.{◌+◌, ◌*◌, ◌≤◌, ◌<◌}
use Rattle.num.specs.Floats.{nought}
use Rattle.loops.specs.Loop.{turns}
use Rattle.solve.specs.Solve.{row_start, larger}
use Rattle.solve.proofs.Lanes.{Joined}
use Rattle.solve.proofs.pivot.next_abs.Given as goal

abbrev pub invariant-loop-i : goal.invariant-loop-i
invariant-loop-i l = (l.best.row < l.end) × (l.other.row < l.end) × (l.best.row ≤ l.k + 2 * l.i) × (l.other.row ≤ l.k + 2 * l.i) × Joined (l.best.size, l.best.row) (l.other.size, l.other.row) (turns (2 * l.i) (larger (row_start l.n) l.k l.m) (nought, l.k))
