-- `models::vpwl::level` meets its contract: one rule or the other, by the option. Assumes nothing.
use Rattle.models.specs.Vpwl.{pattern_of}
use Rattle.models.proofs.vpwl.level.Goals as goal

pub returns-then-pattern_first : goal.returns-then-pattern_first
unfolding pattern_of
returns-then-pattern_first c = rw c.if-pattern_first.true c.evaluate_first.ensures

pub returns : goal.returns
unfolding pattern_of
returns c = rw c.if-pattern_first.false c.evaluate.ensures
