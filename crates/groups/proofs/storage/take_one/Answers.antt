-- `groups::storage::take_one` meets its contract: an inductor takes its current; any other kind takes nothing. Assumes nothing.
use Rattle.groups.specs.Storage.{with_current}
use Rattle.groups.specs.Laws.Quiet.{quiet_currents}
use Rattle.groups.proofs.Tags.{not_inductor}
use Rattle.groups.proofs.storage.take_one.Goals as goal

pub returns-in_default-e : goal.returns-in_default-e
returns-in_default-e c = rw (c.in-Ok.is, quiet_currents _ _ _ _ _ (not_inductor _ c.in_default-e.not-L))

pub returns : goal.returns
unfolding with_current
returns c = rw (c.in-Ok.is, c.in-L.is) (rw (c.current_in-c.ensures, c.number_at.ensures) at c.put.ensures)
