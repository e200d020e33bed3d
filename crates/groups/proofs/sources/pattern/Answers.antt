-- `groups::sources::pattern` meets its contract: the level is the one that the option's rule gives at the pass's time. Assumes nothing.
use Rattle.groups.proofs.sources.pattern.Goals as goal

pub returns : goal.returns
returns c = rw (c.level.ensures, c.source_time.ensures)
