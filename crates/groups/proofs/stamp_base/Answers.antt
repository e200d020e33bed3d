-- `groups::stamp_base` meets its contract: zeros first, then the group. Assumes nothing.
use Rattle.groups.specs.Stamping.{base_of}
use Rattle.groups.proofs.stamp_base.Goals as goal

pub returns : goal.returns
unfolding base_of
returns c = rw (← c.fill.ensures.after (λ y e. e)) c.stamp_base.ensures
