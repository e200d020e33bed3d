-- `groups::sources::source_one` meets its contract: each arm is one source; the arm of the other kinds writes nothing. Assumes nothing.
use Rattle.groups.specs.Sources.{driven}
use Rattle.groups.specs.Laws.Quiet.{quiet_driven}
use Rattle.groups.proofs.Tags.{not_source}
use Rattle.groups.proofs.sources.source_one.Goals as goal

pub returns-in_default : goal.returns-in_default
returns-in_default c = rw c.in_default.is

pub returns-in-Isin : goal.returns-in-Isin
unfolding driven
returns-in-Isin c =
    rw (c.in-Ok.is, c.in-Isin.is) (rw (c.evaluate.ensures, c.source_time.ensures) at c.current.ensures)

pub returns-in-Vsin : goal.returns-in-Vsin
unfolding driven
returns-in-Vsin c =
    rw (c.in-Ok.is, c.in-Vsin.is) (rw (c.evaluate-v.ensures, c.source_time-in-Vsin.ensures) at c.voltage.ensures)

pub returns-in-Vpwl : goal.returns-in-Vpwl
unfolding driven
returns-in-Vpwl c =
    rw (c.in-Ok.is, c.in-Vpwl.is) (rw c.pattern-v.ensures at c.voltage-in-Vpwl.ensures)

pub returns-in_default-e : goal.returns-in_default-e
returns-in_default-e c = rw (c.in-Ok.is, quiet_driven _ _ _ _ (not_source _ c.in_default-e.not-Isin c.in_default-e.not-Vsin c.in_default-e.not-Vpwl))
