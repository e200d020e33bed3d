-- `solve::update::less_scaled` meets its contract. Assumes nothing.
use Rattle.std.proofs.Common.{◌-◌, arith}
use Rattle.solve.specs.Laws.Entries.{less_join}
use Rattle.solve.proofs.update.less_scaled.Goals as goal

pub returns : goal.returns
returns c =
    let a = c.args in
    let many = c.fours-many.result in
    less_join a.from a.to many (a.len - many) a.len a.ratio a.m.now _ _ (omega arith) c.less_each.ensures c.less_few.ensures
