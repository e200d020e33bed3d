-- The invariant of `judge::all_allowed`: what is left to look at says the same as the whole.
use mathlib.Core.Path.{◌≡◌}
use Prim.Native.Nat.{◌≤◌}
use lib.ListN.{length, drop}
use Rattle.num.specs.Lists.{every}
use Rattle.judge.specs.Judge.{allowed}
use Rattle.judge.proofs.all_allowed.Given as goal

abbrev pub invariant-loop-i : goal.invariant-loop-i
invariant-loop-i l = (l.i ≤ length l.s) × (every (allowed l.tolerance) (drop l.i l.s) ≡ every (allowed l.tolerance) l.s)
