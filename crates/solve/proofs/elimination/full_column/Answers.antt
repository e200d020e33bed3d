-- `solve::elimination::full_column` meets its contract. Assumes nothing.
use Rattle.solve.proofs.Columns.{stops, goes}
use borrow.Author.Rules.{rules}
use Rattle.solve.proofs.elimination.full_column.Goals as goal

pub returns-then-m-at : goal.returns-then-m-at
returns-then-m-at c =
    let a = c.args in
    let r = c.reach-end in
    let t = rw c.row_start-p.ensures.0 at c.if-m-at.true in
    stops a.n a.k r.result r.ensures.0 r.ensures.1 _ a.m.now c.requires.2 r.ensures.2 c.next_abs.ensures.0 t

pub returns : goal.returns
returns c =
    let a = c.args in
    let r = c.reach-end in
    let p = c.next_abs in
    let t = rw c.row_start-p.ensures.0 at c.if-m-at.false in
    let e = rw (c.row_start-p.ensures.0, c.row_start-to.ensures.0) at c.swap_rows.ensures in
    goes a.n a.k r.result r.ensures.0 r.ensures.1 _ a.m.now c.requires.2 r.ensures.2 p.ensures.0 _ _ p.ensures.1 t e (search rules) c.clear_below.ensures
