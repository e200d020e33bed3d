-- `groups::sources::source_time` meets its contract: by the one test. Assumes nothing.
use Rattle.groups.proofs.sources.source_time.Goals as goal

pub returns-then-w : goal.returns-then-w
returns-then-w c = rw c.if-w.true
