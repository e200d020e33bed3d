-- Where a node number and a source number meet. Clients cite row_of.
use Rattle.std.specs.Prelude.{ℕ, ◌+◌, cond, ltb}
use Rattle.sheet.specs.declared.SourceId.{SourceId}

-- the source's row is node count plus source number; a count above 65,535, which no call allows, has ground's row, where nothing is written
unfoldable pub row_of : ℕ → SourceId → ℕ
row_of nodes s = cond (ltb nodes 65536) (nodes + s.0) 0
