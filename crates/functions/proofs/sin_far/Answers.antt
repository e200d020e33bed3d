-- `functions::sin_far` meets its contract. Assumes nothing.
use Rattle.std.proofs.Common.{sym, ◌∙◌}
use lib.Ieee.{div, of_bits}
use Rattle.functions.specs.Sin.{sin_far}
use Rattle.functions.proofs.sin_far.Goals as goal

pub returns-then-finite : goal.returns-then-finite
unfolding sin_far
returns-then-finite c = rw (sym c.finite.ensures ∙ c.if-finite.true)

pub returns : goal.returns
unfolding sin_far div of_bits
returns c = rw (sym c.finite.ensures ∙ c.if-finite.false)
