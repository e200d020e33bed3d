-- What the loop of `groups::storage::stamp_storage` keeps true.
use Rattle.groups.specs.Storage.{storage_writes}
use Rattle.groups.proofs.Walk.{Walking}
use Rattle.groups.proofs.storage.stamp_storage.Given as goal

abbrev pub invariant-loop-i : goal.invariant-loop-i
invariant-loop-i l = Walking (storage_writes l.p l.x l.memory) l.p.order l.sheet l.initial.m l.count l.i l.m
