-- What the loop of `models::vpwl::between` keeps true.
use Prim.Native.Nat.{◌+◌, ◌-◌, ◌≤◌}
use mathlib.Core.Path.{◌≡◌}
use Rattle.num.specs.Floats.{nought}
use Rattle.models.specs.Vpwl.{between, points_from}
use Rattle.models.proofs.vpwl.between.Given as goal

abbrev pub invariant-loop-i : goal.invariant-loop-i
invariant-loop-i l = (l.i ≤ l.count) × (between l.t_cycle l.t1 l.v1 (points_from l.points (l.first + l.i) (l.count - l.i)) ≡ between l.t_cycle nought nought (points_from l.points l.first l.count))
