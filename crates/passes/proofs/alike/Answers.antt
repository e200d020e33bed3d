-- `passes::alike` meets its contract: by its test. Assumes nothing.
use Rattle.passes.specs.Again.{alike}
use Rattle.passes.proofs.alike.Goals as goal

pub returns-then-c : goal.returns-then-c
unfolding alike
returns-then-c c = rw c.if-c.true

pub returns : goal.returns
unfolding alike
returns c = rw c.if-c.false
