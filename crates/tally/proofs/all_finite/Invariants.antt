-- What the loop of `tally::all_finite` keeps true.
use Prim.Native.Nat.{◌≤◌}
use mathlib.Core.Path.{◌≡◌}
use Rattle.tally.specs.Tally.{number_in, value_in, all_finite}
use Rattle.tally.proofs.all_finite.Given as goal

abbrev pub invariant-loop-j : goal.invariant-loop-j
invariant-loop-j l = (l.j ≤ l.jobs) × (l.all ≡ all_finite (number_in l.numbers) (value_in l.n l.unknown l.vectors) l.j)
