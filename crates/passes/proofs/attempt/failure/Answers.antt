-- `passes::attempt::failure` meets its contract: by its test. Assumes nothing.
use borrow.Author.Tests.{eq-eqb, ne_eqb}
use Rattle.passes.specs.Again.{failure_of}
use Rattle.passes.proofs.attempt.failure.Goals as goal

pub returns-then-k-eq-DIODE_CURRENT : goal.returns-then-k-eq-DIODE_CURRENT
unfolding failure_of
returns-then-k-eq-DIODE_CURRENT c = rw (eq-eqb _ _ c.if-k-eq-DIODE_CURRENT.true)

pub returns : goal.returns
unfolding failure_of
returns c = rw (ne_eqb _ _ c.if-k-eq-DIODE_CURRENT.false)
