-- `decimal::of_pattern` meets its contract.
use borrow.Author.Tests.{eq-eqb, ne_eqb}
use Rattle.decimal.specs.Decimal.{of_pattern}
use Rattle.decimal.proofs.of_pattern.Goals as goal

pub returns-then-field-eq2047 : goal.returns-then-field-eq2047
unfolding of_pattern
returns-then-field-eq2047 c = rw (eq-eqb _ _ c.if-field-eq2047.true)

pub returns-then-low-eq0 : goal.returns-then-low-eq0
unfolding of_pattern
returns-then-low-eq0 c = rw (ne_eqb _ _ c.if-field-eq2047.false, eq-eqb _ _ c.if-field-eq0.true, eq-eqb _ _ c.if-low-eq0.true)

pub returns-then-field-eq0 : goal.returns-then-field-eq0
unfolding of_pattern
returns-then-field-eq0 c = rw (ne_eqb _ _ c.if-field-eq2047.false, eq-eqb _ _ c.if-field-eq0.true, ne_eqb _ _ c.if-low-eq0.false) c.of_steps.ensures

pub returns : goal.returns
unfolding of_pattern
returns c = rw (ne_eqb _ _ c.if-field-eq2047.false, ne_eqb _ _ c.if-field-eq0.false) c.of_steps-2.ensures
