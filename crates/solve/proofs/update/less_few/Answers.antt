-- `solve::update::less_few` meets its contract. Assumes nothing.
use Rattle.std.proofs.Common.{◌-◌, arith}
use Rattle.solve.specs.Laws.Entries.{less_join}
use Rattle.solve.proofs.update.less_few.Goals as goal

pub returns : goal.returns
returns c =
    let a = c.args in
    less_join a.from a.to 4 (a.len - 4) a.len a.ratio a.m.now _ _ (omega arith) c.less_each.ensures c.less_below_four-2.ensures
