-- What the loop of `solve::elimination::clear_listed` keeps true.
use Rattle.std.proofs.Common.{◌≡◌}
use Rattle.loops.specs.Loop.{turns}
use Rattle.solve.specs.Inner.{clear_listed}
use Rattle.solve.proofs.elimination.clear_listed.Given as goal

abbrev pub invariant-loop-r : goal.invariant-loop-r
invariant-loop-r l = l.m ≡ turns l.r-index (clear_listed l.n l.k l.list) l.initial.m
