-- What the loop of `solve::substitution::substitute` keeps true.
use mathlib.Core.Path.{◌≡◌}
use mathlib.Core.Bool.{true}
use Prim.Native.Nat.{◌-◌, ◌≤◌, ◌<◌}
use lib.ListN.{length}
use Rattle.loops.specs.Loop.{down}
use Rattle.num.specs.Lists.{«at»}
use Rattle.solve.specs.Solve.{row_start, back_one}
use Rattle.solve.specs.Inner.{AllFinite}
use Rattle.solve.proofs.substitution.substitute.Given as goal

abbrev pub invariant-loop-i : goal.invariant-loop-i
invariant-loop-i l = (l.i ≤ l.initial.i) × (l.i < l.n) × (length l.x ≡ l.n) × (length l.initial.x ≡ l.n) × (l.next ≡ «at» l.x l.i) × (down (l.i - 1) (back_one (row_start l.n) l.n l.m) l.x ≡ down (l.initial.i - 1) (back_one (row_start l.n) l.n l.m) l.initial.x) × (l.tame ≡ true → AllFinite l.i l.n l.x)
