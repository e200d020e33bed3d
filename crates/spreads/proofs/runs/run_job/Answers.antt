-- `spreads::runs::run_job` meets its contract.
use Prim.Native.Nat.{◌+◌, ◌-◌, ◌*◌}
use native.Mathlib.Omega.{arith}
use Rattle.spreads.specs.Laws.Runs.{placed}
use Rattle.spreads.proofs.runs.run_job.Goals as goal

pub returns : goal.returns
returns c = let a = c.args in
    let h = c.requires in
    placed a.o a.nodes a.sources a.bytes a.job (a.job * a.bytes + a.bytes - a.job * a.bytes) (a.job * (a.nodes + a.sources) + (a.nodes + a.sources) - a.job * (a.nodes + a.sources)) a.sheets.now a.points.now a.base.now a.system.now a.elimination.now a.memory.now a.vectors.now _ _ _ _ _ (omega arith) (omega arith) h.1 h.2 h.3 c.run_alone.ensures.all
