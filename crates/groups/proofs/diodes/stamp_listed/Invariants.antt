-- What the loop of `groups::diodes::stamp_listed` keeps true.
use mathlib.Core.Path.{◌≡◌}
use Prim.Native.Nat.{◌≤◌}
use lib.ListN.{length}
use Rattle.loops.specs.Loop.{turns}
use Rattle.groups.specs.Diodes.{Stamped, stamped_of}
use Rattle.groups.specs.Listed.{listed_at}
use Rattle.groups.proofs.diodes.stamp_listed.Given as goal

abbrev pub invariant-loop-j : goal.invariant-loop-j
invariant-loop-j l = (l.j ≤ length l.places) × (length l.memory ≡ length l.initial.memory) × (length l.m ≡ length l.initial.m) × (◌≡◌ {A = Stamped} (stamped_of l.code l.m l.memory) (turns l.j (listed_at l.o l.sheet l.n l.x l.places) (stamped_of 0 l.initial.m l.initial.memory)))
