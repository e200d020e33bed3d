-- `models::inductor::current` meets its contract: the conductance, then the definition's product and sum. Assumes nothing.
use Rattle.models.specs.Inductor.{current_after}
use Rattle.models.proofs.inductor.current.Goals as goal

pub returns : goal.returns
unfolding current_after
returns c = rw c.conductance.ensures
