-- `groups::storage::stamp_storage` meets its contract: the records passed have written their lists. Assumes nothing.
use mathlib.Core.Path.{refl}
use Rattle.groups.specs.Records.{element_at}
use Rattle.groups.specs.Storage.{storage_writes, storage_of}
use Rattle.groups.proofs.Walk.{at_first, one_more_lem, at_last}
use Rattle.groups.proofs.storage.stamp_storage.Goals as goal

pub loop-i-init : goal.loop-i-init
loop-i-init c = at_first _ _ _ _ _

pub loop-i-preserved : goal.loop-i-preserved
loop-i-preserved c =
    let a = c.args in
    let l = c.loop-i in
    let f = storage_writes a.p a.x.now a.memory.now in
    one_more_lem f a.p.order a.sheet.now a.m.now _ l.i _ _ (element_at a.sheet.now l.i) c.loop-i-test.true l.invariant refl c.storage_at.ensures

pub returns : goal.returns
unfolding storage_of
returns c =
    let a = c.args in
    at_last (storage_writes a.p a.x.now a.memory.now) a.p.order a.sheet.now a.m.now _ _ _ c.records-count.ensures c.loop-i-test.false c.loop-i.invariant
