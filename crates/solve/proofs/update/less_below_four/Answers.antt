-- `solve::update::less_below_four` meets its contract. Assumes nothing.
use Rattle.std.proofs.Common.{◌-◌, arith}
use Rattle.solve.specs.Laws.Entries.{less_join}
use Rattle.solve.proofs.update.less_below_four.Goals as goal

pub returns : goal.returns
returns c =
    let a = c.args in
    less_join a.from a.to 2 (a.len - 2) a.len a.ratio a.m.now _ _ (omega arith) c.less_each-2.ensures c.less_each-3.ensures
