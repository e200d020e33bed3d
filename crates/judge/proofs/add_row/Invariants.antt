-- The invariant of `judge::add_row`: the rows keep the sum of the first j products.
use Prim.Native.Nat.{◌≤◌}
use Rattle.exact.specs.Sums.{Sums}
use Rattle.judge.specs.Judge.{total}
use Rattle.judge.proofs.add_row.Given as goal

abbrev pub invariant-loop-j : goal.invariant-loop-j
invariant-loop-j l = (l.j ≤ l.n) × Sums l.j (total l.m l.x l.from l.j) l.plus l.minus
