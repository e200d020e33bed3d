-- `sheet::row_of` meets its contract. Assumes nothing.
use borrow.Author.Tests.{lt-ltb, le-ltb}
use Rattle.sheet.specs.Row.{row_of}
use Rattle.sheet.proofs.row_of.Goals as goal

pub returns-then-nodes-lt65536 : goal.returns-then-nodes-lt65536
unfolding row_of
returns-then-nodes-lt65536 c = simp (lt-ltb _ _ c.if-nodes-lt65536.true)

pub returns-else-nodes-lt65536 : goal.returns-else-nodes-lt65536
unfolding row_of
returns-else-nodes-lt65536 c = simp (le-ltb _ _ c.if-nodes-lt65536.false)
