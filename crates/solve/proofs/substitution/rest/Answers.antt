-- `solve::substitution::rest` meets its contract. Assumes nothing.
use Rattle.loops.specs.Laws.Loop.{more, done}
use Rattle.solve.specs.Solve.{dot}
use borrow.Author.Rules.{rules}
use Rattle.solve.proofs.substitution.rest.Goals as goal

pub loop-j-init : goal.loop-j-init
loop-j-init c = (search rules, c.row_start-start.ensures.0, search rules)

pub loop-j-preserved : goal.loop-j-preserved
loop-j-preserved c =
    let l = c.loop-j in
    (search rules, l.invariant.1, rw l.invariant.1 (more _ _ _ l.j l.invariant.2))

pub returns : goal.returns
unfolding dot
returns c = done _ _ _ c.loop-j.j _ c.loop-j.invariant.0 c.loop-j-test.false c.loop-j.invariant.2
