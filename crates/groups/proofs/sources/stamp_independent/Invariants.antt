-- What the loop of `groups::sources::stamp_independent` keeps true.
use mathlib.Core.Path.{◌≡◌}
use Prim.Native.Nat.{◌≤◌}
use lib.ListN.{length}
use Rattle.loops.specs.Loop.{turns}
use Rattle.groups.specs.Sources.{Driven, driven_of, driven_at}
use Rattle.groups.proofs.sources.stamp_independent.Given as goal

abbrev pub invariant-loop-i : goal.invariant-loop-i
invariant-loop-i l = (l.i ≤ l.count) × (length l.m ≡ length l.initial.m) × (◌≡◌ {A = Driven} (driven_of l.code l.m) (turns l.i (driven_at l.w l.sheet l.points) (driven_of 0 l.initial.m)))
