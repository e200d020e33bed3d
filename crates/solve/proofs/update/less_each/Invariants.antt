-- What the loop of `solve::update::less_each` keeps true.
use Rattle.std.proofs.Common.{◌≡◌}
use Rattle.loops.specs.Loop.{turns}
use Rattle.solve.specs.Solve.{less_one}
use Rattle.solve.proofs.update.less_each.Given as goal

abbrev pub invariant-loop-i : goal.invariant-loop-i
invariant-loop-i l = l.m ≡ turns l.i (less_one l.from l.to l.ratio) l.initial.m
