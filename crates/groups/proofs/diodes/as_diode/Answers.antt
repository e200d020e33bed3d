-- `groups::diodes::as_diode` meets its contract: by the verdict so far. Assumes nothing.
use borrow.Author.Tests.{eq-eqb, ne_eqb}
use Rattle.groups.specs.Listed.{as_diode}
use Rattle.groups.proofs.diodes.as_diode.Goals as goal

pub returns-then-code-ne0 : goal.returns-then-code-ne0
unfolding as_diode
returns-then-code-ne0 c = rw (ne_eqb _ _ c.if-code-ne0.true)

pub returns : goal.returns
unfolding as_diode
returns c = rw (eq-eqb _ _ c.if-code-ne0.false, ← c.diode_at.ensures) c.diode_one.ensures
