-- What the loop of `groups::diodes::stamp_rest` keeps true.
use mathlib.Core.Path.{◌≡◌}
use Prim.Native.Nat.{◌-◌, ◌≤◌}
use lib.ListN.{length}
use Rattle.loops.specs.Loop.{turns}
use Rattle.groups.specs.Diodes.{Stamped, stamped_of}
use Rattle.groups.specs.Listed.{rest_at}
use Rattle.groups.proofs.diodes.stamp_rest.Given as goal

abbrev pub invariant-loop-i : goal.invariant-loop-i
invariant-loop-i l = (256 ≤ l.i) × (l.i - 256 ≤ l.count - 256) × (length l.memory ≡ length l.initial.memory) × (length l.m ≡ length l.initial.m) × (◌≡◌ {A = Stamped} (stamped_of l.code l.m l.memory) (turns (l.i - 256) (rest_at l.o l.sheet l.n l.x) (stamped_of l.before l.initial.m l.initial.memory)))
