-- `passes::take` meets its contract: without inductors nothing would be taken; else by whether the vector is taken. Assumes nothing.
use mathlib.Core.Path.{sym, ◌∙◌}
use Rattle.loops.specs.Laws.Loop.{either_same}
use Rattle.groups.specs.Laws.Storage.{nothing_taken}
use lib.ListN.{length}
use Rattle.machine.specs.Machine.{takes}
use Rattle.passes.specs.Attempt.{pass_of}
use Rattle.passes.specs.Again.{memory_after}
use Rattle.passes.proofs.take.Goals as goal

pub returns-then-not-inductors : goal.returns-then-not-inductors
unfolding memory_after
returns-then-not-inductors c =
    let z = c.requires in
    let a = c.args in
    let same = nothing_taken (pass_of a.k.job (length a.vector.now) a.c) a.k.sheet.now a.vector.now a.memory.now (sym z ∙ c.if-not-inductors.true) in
    sym (rw same (either_same (takes a.k.job a.c a.report)))

pub returns-then-takes : goal.returns-then-takes
unfolding memory_after
returns-then-takes c =
    let t = sym c.takes.ensures ∙ c.if-takes.true in
    rw t (rw c.pass_of.ensures at c.take_currents.ensures)

pub returns-else-takes : goal.returns-else-takes
unfolding memory_after
returns-else-takes c =
    let t = sym c.takes.ensures ∙ c.if-takes.false in
    rw t
