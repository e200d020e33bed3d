-- `solve::elimination::clear_listed` meets its contract. Assumes nothing.
use Rattle.std.proofs.Common.{◌∙◌, rules}
use Rattle.loops.specs.Laws.Loop.{more}
use Rattle.solve.proofs.elimination.clear_listed.Goals as goal

pub row_start-requires-in-loop-r : goal.row_start-requires-in-loop-r
row_start-requires-in-loop-r c = (c.requires.3 c.loop-r.r-index (search rules), search rules)

pub loop-r-preserved : goal.loop-r-preserved
loop-r-preserved c =
    let l = c.loop-r in
    let e = rw (c.row_start.ensures.0, c.row_start-in-loop-r.ensures.0) at c.reduce.ensures in
    e ∙ more _ _ _ l.r-index l.invariant
