-- What the loop of `sheet::has_inductors` keeps true.
use Prim.Native.Nat.{◌≤◌}
use mathlib.Core.Path.{◌≡◌}
use mathlib.Core.Bool.{Bool}
use Rattle.sheet.specs.Sharing.{inductor_among}
use Rattle.sheet.proofs.has_inductors.Given as goal

abbrev pub invariant-loop-i : goal.invariant-loop-i
invariant-loop-i l = (l.i ≤ l.count) × (◌≡◌ {A = Bool} l.found (inductor_among l.sheet l.i))
