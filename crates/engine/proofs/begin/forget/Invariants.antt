-- What the loop of `engine::begin::forget` keeps true.
use Prim.Native.Nat.{◌≤◌}
use mathlib.Core.Path.{◌≡◌}
use lib.ListN.{length}
use Rattle.loops.specs.Loop.{turns}
use Rattle.engine.specs.Begin.{forget_at}
use Rattle.engine.proofs.begin.forget.Given as goal

abbrev pub invariant-loop-i : goal.invariant-loop-i
invariant-loop-i l = (l.i ≤ length l.initial.memory) × (length l.memory ≡ length l.initial.memory) × (l.memory ≡ turns l.i (forget_at l.sheet) l.initial.memory)
