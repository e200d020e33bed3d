-- `groups::diodes::diode_one` meets its contract: a diode is one model; any other kind writes nothing. Assumes nothing.
use mathlib.Core.Path.{sym}
use Rattle.models.specs.Diode.{linearized}
use Rattle.groups.specs.Diodes.{biased}
use Rattle.groups.specs.Laws.Quiet.{quiet_biased}
use Rattle.groups.proofs.Tags.{not_diode}
use Rattle.groups.proofs.diodes.diode_one.Goals as goal

pub returns-in_default : goal.returns-in_default
returns-in_default c = sym (quiet_biased _ _ _ _ _ _ _ (not_diode _ c.in_default.not-D))

pub returns : goal.returns
unfolding biased linearized
returns c = rw c.in-D.is (rw (c.linearize_at-l.ensures, c.new-d.ensures, c.number_at.ensures, c.across.ensures) at c.stamp_model.ensures)
