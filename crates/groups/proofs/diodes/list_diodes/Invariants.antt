-- What the loop of `groups::diodes::list_diodes` keeps true.
use Prim.Native.Nat.{◌≤◌}
use mathlib.Core.Path.{◌≡◌}
use lib.ListN.{length}
use Rattle.groups.specs.Listed.{Places, places_of, diodes_among, fronted}
use Rattle.groups.proofs.diodes.list_diodes.Given as goal

abbrev pub invariant-loop-i : goal.invariant-loop-i
invariant-loop-i l = (l.i ≤ l.count) × (l.found ≤ l.i) × (l.count ≤ 256) × (l.count ≤ length l.initial.places) × (length l.places ≡ length l.initial.places) × (◌≡◌ {A = Places} (places_of l.found l.places) (fronted (diodes_among l.sheet l.i) l.initial.places))
