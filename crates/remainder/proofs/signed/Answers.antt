-- A whole number below 2^53 is a float as it stands.
use Rattle.std.proofs.Common.{false, le_of_lt}
use Rattle.std.specs.Float.{binary64}
use Rattle.std.specs.Float.Ieee.{of_int}
use lib.Ieee.Back.{round_whole}
use Rattle.remainder.proofs.Value.{negated}
use Rattle.remainder.proofs.signed.Goals as goal

pub returns-then-minus : goal.returns-then-minus
unfolding of_int
returns-then-minus c = rw c.if-minus.true (negated _ c.args.r 1 (round_whole binary64 false c.args.r (le_of_lt c.requires)))

pub returns-else-minus : goal.returns-else-minus
unfolding of_int
returns-else-minus c = rw c.if-minus.false (round_whole binary64 false c.args.r (le_of_lt c.requires))
