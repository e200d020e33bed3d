-- `passes::attempt::compare` meets its contract: from its two calls. Assumes nothing.
use Rattle.passes.proofs.attempt.compare.Goals as goal

pub returns : goal.returns
returns c = rw (← c.convergence_check.ensures) c.from.ensures
