-- `groups::plain::stamp_dependent` meets its contract: the records passed have written their lists. Assumes nothing.
use Rattle.numbers.specs.Kinds.{vcvs, vccs}
use Rattle.groups.specs.Plain.{dependent_writes, dependent_of}
use Rattle.groups.specs.Laws.Quiet.{quiet_dependent}
use Rattle.groups.proofs.Walk.{at_first, one_more_in, at_last}
use Rattle.groups.proofs.plain.stamp_dependent.Goals as goal

pub loop-i-init : goal.loop-i-init
loop-i-init c = at_first _ _ _ _ _

pub loop-i-preserved : goal.loop-i-preserved
loop-i-preserved c =
    let a = c.args in
    let l = c.loop-i in
    let f = dependent_writes a.nodes a.n in
    one_more_in f vcvs vccs a.n a.sheet.now a.m.now (quiet_dependent a.nodes a.n) _ l.i _ _ _
    c.loop-i-test.true l.invariant (rw (c.number.ensures, c.number-in-loop-i.ensures) at c.record_in-d.ensures) c.dependent_one.ensures

pub returns : goal.returns
unfolding dependent_of
returns c =
    let a = c.args in
    at_last (λ _. dependent_writes a.nodes a.n) a.n a.sheet.now a.m.now _ _ _ c.records-count.ensures c.loop-i-test.false c.loop-i.invariant
