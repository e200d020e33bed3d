-- What the loop of `solve::elimination::eliminate` keeps true.
use Rattle.std.proofs.Common.{◌≡◌, ◌-◌, ◌≤◌, Bool, true, List}
use Rattle.std.specs.Prelude.{Float}
use Rattle.loops.specs.Loop.{turns}
use Rattle.solve.specs.Solve.{row_start, column_next}
use Rattle.solve.proofs.elimination.eliminate.Given as goal

abbrev pub invariant-loop-k : goal.invariant-loop-k
invariant-loop-k l = (l.k - 1 ≤ l.n - 2) × ◌≡◌ {A = Bool × List Float} (true, l.m) (turns (l.k - 1) (column_next (row_start l.n) l.n) (true, l.initial.m))
