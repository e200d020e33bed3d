-- `functions::logarithm::unit_of` meets its contract. Assumes nothing.
use Rattle.std.proofs.Common.{le-ltb, lt-ltb}
use Rattle.functions.proofs.logarithm.unit_of.Goals as goal

pub returns-then-k-lt12 : goal.returns-then-k-lt12
returns-then-k-lt12 c = rw (lt-ltb c.args.k 12 c.if-k-lt12.true)

pub returns-else-k-lt12 : goal.returns-else-k-lt12
returns-else-k-lt12 c = rw (le-ltb c.args.k 12 c.if-k-lt12.false)
