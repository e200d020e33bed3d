-- `models::sine::evaluate` meets its contract. Assumes nothing.
use Rattle.models.specs.Sine.{sine_at, level_of}
use Rattle.models.proofs.sine.evaluate.Goals as goal

pub returns : goal.returns
unfolding sine_at level_of
returns c = rw (← c.sin.ensures, c.in_ok-y.was)

pub returns-in_err-y : goal.returns-in_err-y
unfolding sine_at level_of
returns-in_err-y c = rw (c.from_residual.ensures, ← c.sin.ensures, c.in_err-y.was)
