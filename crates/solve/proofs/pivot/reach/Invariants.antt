-- What the loop of `solve::pivot::reach` keeps true.
use Prim.Native.Nat.{◌≤◌, ◌<◌}
use Rattle.solve.specs.Inner.{Empty}
use Rattle.solve.proofs.pivot.reach.Given as goal

abbrev pub invariant-loop-r : goal.invariant-loop-r
invariant-loop-r l = (l.k < l.r) × (l.r ≤ l.n) × Empty l.n l.k l.r l.m
