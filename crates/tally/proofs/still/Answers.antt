-- `tally::still` meets its contract.
use mathlib.Core.Path.{◌≡◌, refl}
use mathlib.Core.Bool.{Bool, true, false, ◌&&◌}
use borrow.Author.Tests.{eq-eqb, ne_eqb}
use Rattle.tally.proofs.still.Goals as goal

as_it_was : (a : Bool) → a ≡ (a && true)
as_it_was true = refl
as_it_was false = refl

pub returns-then-number-eq-SETTLED : goal.returns-then-number-eq-SETTLED
returns-then-number-eq-SETTLED c = rw (eq-eqb _ _ c.if-number-eq-SETTLED.true, c.finite.ensures)

pub returns : goal.returns
returns c = rw (ne_eqb _ _ c.if-number-eq-SETTLED.false) (as_it_was _)
