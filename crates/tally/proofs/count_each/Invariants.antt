-- What the loop of `tally::count_each` keeps true.
use Prim.Native.Nat.{◌≤◌}
use mathlib.Core.List.{◌++◌}
use mathlib.Core.Path.{◌≡◌}
use lib.ListN.{length, drop}
use Rattle.tally.specs.Tally.{number_in, how_many}
use Rattle.loops.specs.Each.{each}
use Rattle.tally.proofs.count_each.Given as goal

abbrev pub invariant-loop-k : goal.invariant-loop-k
invariant-loop-k l = (l.k ≤ l.kinds) × (length l.counts ≡ length l.initial.counts) × (l.counts ≡ each (how_many (number_in l.numbers) l.jobs) l.k ++ drop l.k l.initial.counts)
