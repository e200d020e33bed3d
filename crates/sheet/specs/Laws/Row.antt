-- Where a source's row stands. Clients cite row_is and row_inside. Assumes nothing.
use Rattle.std.specs.Prelude.{ℕ, ◌+◌, ◌<◌, ◌≡◌}
use Rattle.std.proofs.Common.{arith, lt-ltb}
use Rattle.sheet.specs.declared.SourceId.{SourceId}
use Rattle.sheet.specs.Row.{row_of}

pub row_is : (nodes : ℕ) (s : SourceId) → nodes < 65536 → row_of nodes s ≡ nodes + s.0
unfolding row_of
row_is nodes s h = rw (lt-ltb nodes 65536 h)

-- a source below the source count has a row below nodes plus sources
pub row_inside : (nodes sources : ℕ) (s : SourceId) → nodes < 65536 → s.0 < sources → row_of nodes s < nodes + sources
row_inside nodes sources s h k = omega (arith, row_is nodes s h)
