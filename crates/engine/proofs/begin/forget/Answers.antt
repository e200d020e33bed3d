-- `engine::begin::forget` meets its contract.
use mathlib.Core.Path.{◌∙◌}
use Rattle.loops.specs.Laws.Loop.{more, done}
use Rattle.engine.specs.Begin.{forgotten}
use borrow.Author.Rules.{rules}
use Rattle.engine.proofs.begin.forget.Goals as goal

pub loop-i-preserved : goal.loop-i-preserved
loop-i-preserved c =
    let l = c.loop-i in
    (search rules, search rules, c.forget_at.ensures ∙ more _ _ _ l.i l.invariant.2)

pub returns : goal.returns
unfolding forgotten
returns c = done _ _ _ c.loop-i.i _ c.loop-i.invariant.0 c.loop-i-test.false c.loop-i.invariant.2
