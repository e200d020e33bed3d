-- The invariant of `exact::at_most`: from i up the two rows stand for the same.
use Rattle.std.proofs.Common.{◌≡◌, drop}
use Rattle.exact.specs.Limbs.{value}
use Rattle.exact.proofs.at_most.Given as goal

abbrev pub invariant-loop-i : goal.invariant-loop-i
invariant-loop-i l = value (drop l.i l.a) ≡ value (drop l.i l.b)
