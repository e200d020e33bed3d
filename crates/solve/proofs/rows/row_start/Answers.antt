-- `solve::rows::row_start` meets its contract. Assumes nothing.
use mathlib.Core.Path.{refl}
use Prim.Native.Nat.{◌+◌}
use native.Mathlib.Omega.{arith}
use Rattle.solve.specs.Laws.Entries.{row_end}
use Rattle.solve.proofs.Sizes.{small}
use Rattle.solve.proofs.rows.row_start.Goals as goal

pub overflow_mul-result : goal.overflow_mul-result
overflow_mul-result c =
    let a = c.args in
    omega (arith, row_end a.r a.n (a.n + 1) c.requires.0, small a.n c.requires.1)

pub returns : goal.returns
returns c = (refl, row_end c.args.r c.args.n (c.args.n + 1) c.requires.0)
