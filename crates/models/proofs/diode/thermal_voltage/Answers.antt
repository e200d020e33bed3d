-- `models::diode::thermal_voltage` meets its contract. Assumes nothing.
use mathlib.Core.Path.{refl}
use Rattle.models.specs.Diode.{thermal}
use Rattle.models.proofs.diode.thermal_voltage.Goals as goal

pub returns : goal.returns
unfolding thermal
returns c = refl
