-- `groups::diodes::stamp_listed` meets its contract: the invariant says what the listed records passed have made of the matrix, the memory and the verdict. Assumes nothing.
use borrow.Author.Rules.{rules}
use mathlib.Core.Path.{refl, ◌∙◌}
use Rattle.loops.specs.Laws.Loop.{more, done}
use Rattle.groups.proofs.diodes.stamp_listed.Goals as goal

pub loop-j-init : goal.loop-j-init
loop-j-init c = (search rules, refl, refl, refl)

pub loop-j-preserved : goal.loop-j-preserved
loop-j-preserved c =
    let l = c.loop-j in
    (search rules, search rules, search rules, rw c.wide.ensures at c.as_diode-code.ensures ∙ more _ _ _ l.j l.invariant.3)

pub returns : goal.returns
returns c =
    let l = c.loop-j in
    done _ _ _ l.j _ l.invariant.0 c.loop-j-test.false l.invariant.3
