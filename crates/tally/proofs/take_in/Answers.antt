-- `tally::take_in` meets its contract.
use mathlib.Core.Path.{ap}
use borrow.Author.Tests.{eq-eqb, ne_eqb}
use Rattle.exact.specs.Kept.{Rows}
use Rattle.tally.proofs.take_in.Goals as goal

pub returns-then-number-ne-SETTLED : goal.returns-then-number-ne-SETTLED
returns-then-number-ne-SETTLED c = rw (ne_eqb _ _ c.if-number-ne-SETTLED.true)

pub returns : goal.returns
returns c = rw (eq-eqb _ _ c.if-number-ne-SETTLED.false, c.with_job.ensures, ap (λ (x : Rows). x.plus) c.keep.ensures, ap (λ (x : Rows). x.minus) c.keep.ensures)
