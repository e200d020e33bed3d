use mathlib.Core.Path.{◌∙◌}
use Prim.Native.Nat.{◌+◌, ◌*◌, ◌≤◌}
use lib.ListN.{length}
use native.Mathlib.Omega.{arith}
use borrow.Author.Tests.{lt-ltb, le-ltb}
use Rattle.loops.specs.Laws.Loop.{row_fits_lem}
use Rattle.machine.specs.Machine.{written_by}
use Rattle.machine.proofs.Laws.Rows.{row_room}
use Rattle.machine.proofs.write.Goals as goal

pub overflow_mul-k : goal.overflow_mul-k
overflow_mul-k c = omega (arith, row_room _ _ _ c.if-k-rows.true)

pub returns-then-k-rows : goal.returns-then-k-rows
unfolding written_by
returns-then-k-rows c =
    let a = c.args in
    let p : a.c.rows * (length a.vector.now + 1) + 1 + length a.vector.now ≤ length a.rows.now = omega (arith, row_room _ _ _ c.if-k-rows.true) in
    rw (lt-ltb _ _ c.if-k-rows.true, c.written.ensures, c.put_row.ensures ∙ row_fits_lem _ _ _ _ p)

pub returns : goal.returns
unfolding written_by
returns c = rw (le-ltb _ _ c.if-k-rows.false, c.ended.ensures)
