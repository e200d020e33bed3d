-- `decimal::shortest::candidate` meets its contract.
use mathlib.Core.Path.{sym, ◌∙◌}
use Rattle.decimal.specs.Shortest.{candidate_of}
use Rattle.decimal.proofs.Digits.{next_few, above_few, below_few}
use Rattle.decimal.proofs.shortest.candidate.Goals as goal

pub overflow_add-d : goal.overflow_add-d
overflow_add-d c = record { fits = next_few _ _ c.requires.0.few }

pub first_in-requires : goal.first_in-requires
first_in-requires c = (above_few _ _ c.requires.0.few c.requires.2, below_few _ _ c.requires.0.few)

pub overflow_add-d-else-up_first : goal.overflow_add-d-else-up_first
overflow_add-d-else-up_first c = record { fits = next_few _ _ c.requires.0.few }

pub first_in-requires-else-up_first : goal.first_in-requires-else-up_first
first_in-requires-else-up_first c = (below_few _ _ c.requires.0.few, above_few _ _ c.requires.0.few c.requires.2)

pub returns-then-up_first : goal.returns-then-up_first
unfolding candidate_of
returns-then-up_first c = rw (sym c.up_first.ensures ∙ c.if-up_first.true) c.first_in.ensures

pub returns-else-up_first : goal.returns-else-up_first
unfolding candidate_of
returns-else-up_first c = rw (sym c.up_first.ensures ∙ c.if-up_first.false) c.first_in-else-up_first.ensures
