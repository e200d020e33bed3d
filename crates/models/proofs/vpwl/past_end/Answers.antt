-- `models::vpwl::past_end` meets its contract. Assumes nothing.
use Rattle.models.proofs.vpwl.past_end.Goals as goal

pub returns-then-repeat : goal.returns-then-repeat
returns-then-repeat c = rw c.if-repeat.true

pub returns : goal.returns
returns c = rw c.if-repeat.false
