-- `solve::elimination::swap_rows` meets its contract. Assumes nothing.
use Rattle.std.proofs.Common.{sym, rules}
use Rattle.loops.specs.Laws.Loop.{more, done}
use Rattle.solve.specs.Solve.{swapped}
use Rattle.solve.specs.Laws.Entries.{swap_same}
use Rattle.solve.proofs.elimination.swap_rows.Goals as goal

pub returns-then-a-b : goal.returns-then-a-b
returns-then-a-b c =
    let a = c.args in
    rw c.if-a-b.true (sym (swap_same a.b a.len a.m.now))

pub loop-i-preserved : goal.loop-i-preserved
loop-i-preserved c = more _ _ _ c.loop-i.i c.loop-i.invariant

pub returns : goal.returns
unfolding swapped
returns c = done _ _ _ c.loop-i.i c.args.len (search rules) (search rules) c.loop-i.invariant
