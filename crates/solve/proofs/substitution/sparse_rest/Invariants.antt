-- What the loop of `solve::substitution::sparse_rest` keeps true.
use mathlib.Core.Path.{◌≡◌}
use Prim.Native.Nat.{◌+◌, ◌*◌}
use Rattle.num.specs.Floats.{nought}
use Rattle.loops.specs.Loop.{turns}
use Rattle.solve.specs.Solve.{row_start, add_one}
use Rattle.solve.proofs.substitution.sparse_rest.Given as goal

abbrev pub invariant-loop-q : goal.invariant-loop-q
invariant-loop-q l = l.s ≡ turns (1 + 4 * l.q) (add_one (row_start l.n) l.m l.x l.i) nought
