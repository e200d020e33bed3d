-- `models::vpwl::at_end` meets its contract: by the one test. Assumes nothing.
use Rattle.models.proofs.vpwl.at_end.Goals as goal

pub returns-then-repeat : goal.returns-then-repeat
returns-then-repeat c = rw c.if-repeat.true

pub returns : goal.returns
returns c = rw c.if-repeat.false
