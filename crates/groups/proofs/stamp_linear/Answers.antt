-- `groups::stamp_linear` meets its contract: by the verdict of the independent sources. Assumes nothing.
use Rattle.groups.proofs.Passed.{ended, went_on}
use Rattle.groups.proofs.stamp_linear.Goals as goal

pub returns-then-code-ne0 : goal.returns-then-code-ne0
returns-then-code-ne0 c =
    let a = c.args in
    let driven = rw c.copy.ensures at c.stamp_independent-code.ensures in
    ended a.p a.sheet.now a.points.now a.base.now a.accepted.now a.memory.now a.matrix.now _ _ driven c.if-code-ne0.true

pub returns : goal.returns
returns c =
    let a = c.args in
    let driven = rw c.copy.ensures at c.stamp_independent-code.ensures in
    went_on a.p a.sheet.now a.points.now a.base.now a.accepted.now a.memory.now a.matrix.now _ _ driven c.if-code-ne0.false _ c.complete.ensures
