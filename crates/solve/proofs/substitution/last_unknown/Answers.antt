-- `solve::substitution::last_unknown` meets its contract. Assumes nothing.
use mathlib.Core.Path.{sym, ◌∙◌}
use Rattle.solve.specs.Solve.{last_unknown}
use Rattle.solve.proofs.substitution.last_unknown.Goals as goal

pub returns-then-finite : goal.returns-then-finite
unfolding last_unknown
returns-then-finite c = rw (← c.row_start-start.ensures.0, sym c.finite.ensures ∙ c.if-finite.true)

pub returns-else-finite : goal.returns-else-finite
unfolding last_unknown
returns-else-finite c = rw (← c.row_start-start.ensures.0, sym c.finite.ensures ∙ c.if-finite.false)
