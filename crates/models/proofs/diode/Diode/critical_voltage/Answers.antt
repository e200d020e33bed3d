-- `models::diode::Diode::critical_voltage` meets its contract. Assumes nothing.
use Rattle.models.specs.Diode.{critical}
use Rattle.models.proofs.diode.Diode.critical_voltage.Goals as goal

pub returns : goal.returns
unfolding critical
returns c = rw c.ln.ensures
