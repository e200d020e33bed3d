-- `models::diode::linearize` meets its contract. Assumes nothing.
use Rattle.models.specs.Diode.{linearized}
use Rattle.models.proofs.diode.linearize.Goals as goal

pub returns : goal.returns
unfolding linearized
returns c = rw c.new.ensures at c.linearize_at.ensures
