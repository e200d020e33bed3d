-- What the loop of `solve::elimination::swap_rows` keeps true.
use Rattle.std.proofs.Common.{◌≡◌}
use Rattle.loops.specs.Loop.{turns}
use Rattle.solve.specs.Solve.{swap_one}
use Rattle.solve.proofs.elimination.swap_rows.Given as goal

abbrev pub invariant-loop-i : goal.invariant-loop-i
invariant-loop-i l = l.m ≡ turns l.i (swap_one l.a l.b) l.initial.m
