-- What the loop of `groups::storage::take_currents` keeps true.
use Prim.Native.Nat.{◌≤◌}
use mathlib.Core.Path.{◌≡◌}
use lib.ListN.{length}
use Rattle.loops.specs.Loop.{turns}
use Rattle.groups.specs.Storage.{with_current_at}
use Rattle.groups.proofs.storage.take_currents.Given as goal

abbrev pub invariant-loop-i : goal.invariant-loop-i
invariant-loop-i l = (l.i ≤ l.count) × (length l.memory ≡ length l.initial.memory) × (l.memory ≡ turns l.i (with_current_at l.p l.sheet l.v) l.initial.memory)
