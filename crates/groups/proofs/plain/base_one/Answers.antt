-- `groups::plain::base_one` meets its contract: each arm is one stamp; the arm of the other kinds writes nothing. Assumes nothing.
use Rattle.stamps.specs.Write.{stamped}
use Rattle.groups.specs.Plain.{base_writes}
use Rattle.groups.specs.Laws.Quiet.{quiet_base}
use Rattle.groups.proofs.Tags.{not_base}
use Rattle.groups.proofs.plain.base_one.Goals as goal

pub returns-in_default : goal.returns-in_default
unfolding stamped
returns-in_default c = rw c.in_default.is

pub returns-in-R : goal.returns-in-R
unfolding base_writes
returns-in-R c = rw (c.in-Ok.is, c.in-R.is) c.stamp_resistor.ensures

pub returns-in-I : goal.returns-in-I
unfolding base_writes
returns-in-I c = rw (c.in-Ok.is, c.in-I.is) c.stamp_current.ensures

pub returns-in-V : goal.returns-in-V
unfolding base_writes
returns-in-V c = rw (c.in-Ok.is, c.in-V.is, ← c.row_of-s.ensures) c.stamp_voltage.ensures

pub returns-in_default-e : goal.returns-in_default-e
unfolding stamped
returns-in_default-e c = rw (c.in-Ok.is, quiet_base _ _ _ (not_base _ c.in_default-e.not-R c.in_default-e.not-I c.in_default-e.not-V))
