-- What the loop of `sheet::check_sheet` keeps true.
use Rattle.std.proofs.Common.{◌≡◌, ◌-◌, ◌≤◌}
use Rattle.sheet.specs.Check.{check_from, check_of, records_of}
use Rattle.sheet.proofs.check_sheet.Given as goal

abbrev pub invariant-loop-i : goal.invariant-loop-i
invariant-loop-i l = (l.i-counter ≤ l.shared) × (check_from l.sheet l.l (records_of l.sheet - l.i-counter) l.i-counter ≡ check_of l.sheet l.l)
