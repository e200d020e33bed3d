-- `spreads::refusals::bad_jobs` meets its contract.
use Rattle.spreads.specs.Refusals.{bad_jobs}
use Rattle.spreads.proofs.refusals.bad_jobs.Goals as goal

pub returns : goal.returns
unfolding bad_jobs
returns c = rw c.outside.ensures
