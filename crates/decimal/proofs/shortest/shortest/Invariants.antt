-- What the loop of `decimal::shortest::shortest` keeps true.
use mathlib.Core.Path.{◌≡◌}
use Prim.Native.Nat.{◌^◌, ◌-◌, ◌≤◌}
use Rattle.decimal.specs.Shortest.{number_of}
use Rattle.decimal.proofs.shortest.shortest.Given as goal

abbrev pub invariant-loop-k : goal.invariant-loop-k
invariant-loop-k l = (1 ≤ l.k) × (l.t ≡ 10 ^ (l.k - 1)) × (number_of l.s l.place (l.k - 1) ≡ number_of l.s l.place 18)
