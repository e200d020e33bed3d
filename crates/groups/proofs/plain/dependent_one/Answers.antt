-- `groups::plain::dependent_one` meets its contract: each arm is one stamp; the arm of the other kinds writes nothing. Assumes nothing.
use Rattle.stamps.specs.Write.{stamped}
use Rattle.groups.specs.Plain.{dependent_writes}
use Rattle.groups.specs.Laws.Quiet.{quiet_dependent}
use Rattle.groups.proofs.Tags.{not_dependent}
use Rattle.groups.proofs.plain.dependent_one.Goals as goal

pub returns-in_default : goal.returns-in_default
unfolding stamped
returns-in_default c = rw c.in_default.is

pub returns-in-Vcvs : goal.returns-in-Vcvs
unfolding dependent_writes
returns-in-Vcvs c = rw (c.in-Ok.is, c.in-Vcvs.is, ← c.row_of.ensures) c.vcvs.ensures

pub returns-in-Vccs : goal.returns-in-Vccs
unfolding dependent_writes
returns-in-Vccs c = rw (c.in-Ok.is, c.in-Vccs.is) c.vccs.ensures

pub returns-in_default-e : goal.returns-in_default-e
unfolding stamped
returns-in_default-e c = rw (c.in-Ok.is, quiet_dependent _ _ _ (not_dependent _ c.in_default-e.not-Vcvs c.in_default-e.not-Vccs))
