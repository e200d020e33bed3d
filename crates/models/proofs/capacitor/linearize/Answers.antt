-- `models::capacitor::linearize` meets its contract. Assumes nothing.
use mathlib.Core.Path.{refl}
use Rattle.models.specs.Capacitor.{companion_of}
use Rattle.models.proofs.capacitor.linearize.Goals as goal

pub returns : goal.returns
unfolding companion_of
returns c = refl
