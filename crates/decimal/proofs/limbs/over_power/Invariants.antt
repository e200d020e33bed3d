-- What the loop of `decimal::limbs::over_power` keeps true.
use mathlib.Core.Path.{◌≡◌}
use Prim.Native.Nat.{◌/◌, ◌%◌, ◌^◌, ◌≤◌}
use lib.Dec.{eqb}
use lib.ListN.{length}
use Rattle.decimal.specs.Limbs.{value, Holds}
use Rattle.decimal.proofs.limbs.over_power.Given as goal

abbrev pub invariant-loop-i : goal.invariant-loop-i
invariant-loop-i l = (l.i ≤ l.n) × Holds (length l.initial.l) l.l (value l.initial.l / l.d ^ l.i) × (l.even ≡ eqb (value l.initial.l % l.d ^ l.i) 0)
