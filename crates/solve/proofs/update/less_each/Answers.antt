-- `solve::update::less_each` meets its contract. Assumes nothing.
use Rattle.std.proofs.Common.{rules}
use Rattle.loops.specs.Laws.Loop.{more, done}
use Rattle.solve.specs.Solve.{less_scaled}
use Rattle.solve.proofs.update.less_each.Goals as goal

pub loop-i-preserved : goal.loop-i-preserved
loop-i-preserved c = more _ _ _ c.loop-i.i c.loop-i.invariant

pub returns : goal.returns
unfolding less_scaled
returns c = done _ _ _ c.loop-i.i c.args.len (search rules) (search rules) c.loop-i.invariant
