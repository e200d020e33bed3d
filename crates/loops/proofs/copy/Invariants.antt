-- What the loop of `loops::copy` keeps true.
use Prim.Native.Nat.{◌≤◌, min}
use mathlib.Core.Path.{◌≡◌}
use lib.ListN.{length}
use Rattle.loops.specs.Loop.{front}
use Rattle.loops.proofs.copy.Given as goal

abbrev pub invariant-loop-i : goal.invariant-loop-i
invariant-loop-i l = (l.i ≤ l.n) × (l.n ≡ min (length l.src) (length l.initial.dst)) × (length l.dst ≡ length l.initial.dst) × (l.dst ≡ front l.i l.src l.initial.dst)
