-- `models::vpwl::level_on` meets its contract. Assumes nothing.
use Rattle.models.specs.Vpwl.{level_on}
use Rattle.models.proofs.vpwl.level_on.Goals as goal

pub returns : goal.returns
unfolding level_on
returns c = rw c.or_zero-gradient.ensures
