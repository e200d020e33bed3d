-- `models::diode::Diode::linearize_at` meets its contract. Assumes nothing.
use Rattle.models.proofs.Laws.Situations.{limited_chosen}
use Rattle.models.proofs.diode.Diode.linearize_at.Goals as goal

pub returns : goal.returns
returns c = rw (limited_chosen _ _ _ _, ← c.situation_of-s.ensures, ← c.limited_in.ensures) c.model_at.ensures
