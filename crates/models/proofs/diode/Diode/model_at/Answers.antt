-- `models::diode::Diode::model_at` meets its contract. Assumes nothing.
use Rattle.models.specs.Diode.{model_at}
use Rattle.models.proofs.diode.Diode.model_at.Goals as goal

pub returns-then-finite : goal.returns-then-finite
unfolding model_at
returns-then-finite c = rw (← c.exp-exp_vd_over_vt.ensures, ← c.finite.ensures, c.if-finite.true, ← c.floor-g.ensures)

pub returns : goal.returns
unfolding model_at
returns c = rw (← c.exp-exp_vd_over_vt.ensures, ← c.finite.ensures, c.if-finite.false)
