-- What the loop of `solve::elimination::clear_below` keeps true.
use Rattle.std.proofs.Common.{◌≡◌, ◌+◌, ◌-◌}
use Rattle.loops.specs.Loop.{turns}
use Rattle.solve.specs.Solve.{row_start, clear_one}
use Rattle.solve.proofs.elimination.clear_below.Given as goal

abbrev pub invariant-loop-r : goal.invariant-loop-r
invariant-loop-r l = l.m ≡ turns (l.r - (l.k + 1)) (clear_one (row_start l.n) l.n l.k) l.initial.m
