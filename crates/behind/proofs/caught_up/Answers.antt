-- `behind::caught_up` meets its contract. Assumes nothing.
use Rattle.behind.specs.Behind.{caught_up_of}
use Rattle.behind.proofs.caught_up.Goals as goal

pub returns : goal.returns
unfolding caught_up_of
returns c = rw (c.absolute-2.ensures, c.absolute.ensures)
