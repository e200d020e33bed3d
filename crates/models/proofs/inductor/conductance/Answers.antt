-- `models::inductor::conductance` meets its contract: it is the definition's one division. Assumes nothing.
use mathlib.Core.Path.{refl}
use Rattle.models.specs.Inductor.{conductance_of}
use Rattle.models.proofs.inductor.conductance.Goals as goal

pub returns : goal.returns
unfolding conductance_of
returns c = refl
