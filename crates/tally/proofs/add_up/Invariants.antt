-- What the loop of `tally::add_up` keeps true.
use Prim.Native.Nat.{◌≤◌}
use mathlib.Core.Path.{◌≡◌}
use Rattle.exact.specs.Sums.{Sums}
use Rattle.tally.specs.Tally.{number_in, value_in, report_over, sum_of}
use Rattle.tally.proofs.add_up.Given as goal

abbrev pub invariant-loop-j : goal.invariant-loop-j
invariant-loop-j l = (l.j ≤ l.jobs) × Sums l.j (sum_of (number_in l.numbers) (value_in l.n l.unknown l.vectors) l.j) l.plus l.minus × (l.r ≡ report_over (number_in l.numbers) (value_in l.n l.unknown l.vectors) l.j)
