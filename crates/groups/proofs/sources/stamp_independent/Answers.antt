-- `groups::sources::stamp_independent` meets its contract: the invariant says what the records passed have made of the matrix and the verdict. Assumes nothing.
use borrow.Author.Rules.{rules}
use mathlib.Core.Path.{refl, ◌∙◌}
use Rattle.loops.specs.Laws.Loop.{more, done}
use Rattle.groups.specs.Sources.{independent_of}
use Rattle.groups.proofs.sources.stamp_independent.Goals as goal

pub loop-i-init : goal.loop-i-init
loop-i-init c = (search rules, refl, refl)

pub loop-i-preserved : goal.loop-i-preserved
loop-i-preserved c =
    let l = c.loop-i in
    (search rules, search rules, c.source_at-code.ensures ∙ more _ _ _ l.i l.invariant.2)

pub returns : goal.returns
unfolding independent_of
returns c =
    let l = c.loop-i in
    rw (← c.records-count.ensures) (done _ _ _ l.i _ l.invariant.0 c.loop-i-test.false l.invariant.2)
