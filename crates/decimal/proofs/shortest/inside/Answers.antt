-- `decimal::shortest::inside` meets its contract.
use borrow.Author.Tests.{le-leb, lt-leb}
use Rattle.decimal.specs.Shortest.{inside_of}
use Rattle.decimal.proofs.shortest.inside.Goals as goal

pub returns-then-s-d : goal.returns-then-s-d
unfolding inside_of
returns-then-s-d c = rw (le-leb _ _ c.if-s-d.true)

pub returns-else-s-d : goal.returns-else-s-d
unfolding inside_of
returns-else-s-d c = rw (lt-leb _ _ c.if-s-d.false)
