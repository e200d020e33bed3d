-- What the loop of `groups::plain::stamp_base` keeps true.
use Rattle.groups.specs.Plain.{base_writes}
use Rattle.groups.proofs.Walk.{Walking}
use Rattle.groups.proofs.plain.stamp_base.Given as goal

abbrev pub invariant-loop-i : goal.invariant-loop-i
invariant-loop-i l = Walking (λ _. base_writes l.nodes l.n) l.n l.sheet l.initial.m l.count l.i l.m
