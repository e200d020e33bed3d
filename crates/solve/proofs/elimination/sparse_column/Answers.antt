-- `solve::elimination::sparse_column` meets its contract. Assumes nothing.
use Rattle.solve.proofs.Listed.{cut, cut_rows, stops, goes}
use Rattle.std.proofs.Common.{◌∙◌, rules}
use Rattle.solve.proofs.elimination.sparse_column.Goals as goal

pub returns-then-m-at : goal.returns-then-m-at
returns-then-m-at c =
    let a = c.args in
    let t = rw c.row_start-p.ensures.0 at c.if-m-at.true in
    stops a.n a.k _ a.m.now (search rules) (search rules) c.search-found.ensures.0 t

pub clear_listed-requires : goal.clear_listed-requires
clear_listed-requires c =
    let f = c.search-found in
    (search rules, search rules, search rules, cut_rows c.args.n f.result.count f.new.list (search rules) f.ensures.3)

pub returns : goal.returns
returns c =
    let a = c.args in
    let f = c.search-found in
    let t = rw c.row_start-p.ensures.0 at c.if-m-at.false in
    let e = rw (c.row_start-p.ensures.0, c.row_start-to.ensures.0) at c.swap_rows.ensures in
    goes a.n a.k _ a.m.now (search rules) (search rules) f.ensures.0 f.ensures.1 t f.result.count f.new.list _ _ f.ensures.4 e (search rules) (c.clear_listed.ensures ∙ cut a.n a.k f.result.count f.new.list _ (search rules))
