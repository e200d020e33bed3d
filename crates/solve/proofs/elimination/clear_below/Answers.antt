-- `solve::elimination::clear_below` meets its contract. Assumes nothing.
use Rattle.std.proofs.Common.{◌≡◌, ◌+◌, ◌-◌, ◌∙◌, arith}
use Rattle.loops.specs.Laws.Loop.{more}
use Rattle.solve.proofs.elimination.clear_below.Goals as goal

pub loop-r-preserved : goal.loop-r-preserved
loop-r-preserved c =
    let l = c.loop-r in
    let k = c.args.k in
    let here : k + 1 + (l.r - (k + 1)) ≡ l.r = omega arith in
    let next : l.r + 1 - (k + 1) ≡ l.r - (k + 1) + 1 = omega arith in
    let e = rw (c.row_start.ensures.0, c.row_start-in-loop-r.ensures.0) at c.reduce.ensures in
    rw (next) (e ∙ (rw here at (more _ _ _ (l.r - (k + 1)) l.invariant)))
