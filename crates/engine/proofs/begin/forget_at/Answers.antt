-- `engine::begin::forget_at` meets its contract: by the test on the kind byte. Assumes nothing.
use Rattle.engine.proofs.begin.forget_at.Goals as goal

pub returns-then-kind : goal.returns-then-kind
returns-then-kind c = rw (← c.kind_at-kind.ensures, c.if-kind.true)

pub returns-else-kind : goal.returns-else-kind
returns-else-kind c = rw (← c.kind_at-kind.ensures, c.if-kind.false)
