-- `sound::runs::run_one` meets its contract.
use Rattle.sound.proofs.Parts.{ended}
use Rattle.sound.proofs.runs.run_one.Goals as goal

pub returns : goal.returns
returns c =
    let a = c.args in
    ended a.o a.nodes a.sources a.sheet.now a.points.now a.tolerances.now a.base.now a.system.now a.elimination.now a.vector.now a.memory.now _ _ _ _ _ _ _
    c.run_alone-m.ensures.all c.find.ensures c.told-c.ensures
