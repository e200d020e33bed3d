-- `convergence::place` meets its contract.
use Rattle.convergence.specs.Convergence.{place}
use mathlib.Core.Path.{sym, ◌∙◌}
use Rattle.convergence.proofs.place.Goals as goal

pub returns-then-not-finite : goal.returns-then-not-finite
unfolding place
returns-then-not-finite c = rw (sym c.finite.ensures ∙ c.if-not-finite.true)

pub returns-then-limit-absolute : goal.returns-then-limit-absolute
unfolding place
returns-then-limit-absolute c = rw (sym c.finite.ensures ∙ c.if-not-finite.false, ← c.limit.ensures, ← c.absolute.ensures, c.if-limit-absolute.true)

pub returns-else-limit-absolute : goal.returns-else-limit-absolute
unfolding place
returns-else-limit-absolute c = rw (sym c.finite.ensures ∙ c.if-not-finite.false, ← c.limit.ensures, ← c.absolute.ensures, c.if-limit-absolute.false)
