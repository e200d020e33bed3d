-- `sound::runs::run_job` meets its contract.
use Prim.Native.Nat.{◌+◌, ◌-◌, ◌*◌}
use native.Mathlib.Omega.{arith}
use Rattle.sound.proofs.Parts.{placed}
use Rattle.sound.proofs.runs.run_job.Goals as goal

pub returns : goal.returns
returns c =
    let a = c.args in
    let n = a.nodes + a.sources in
    placed a.o a.nodes a.sources a.bytes a.job (a.job * a.bytes + a.bytes - a.job * a.bytes) (a.job * n + n - a.job * n) a.sheets.now a.points.now a.tolerances.now a.base.now a.system.now a.elimination.now a.memory.now a.vectors.now _ _
    (omega arith) (omega arith) c.requires.1 c.requires.2 c.requires.3 c.run_one.ensures
