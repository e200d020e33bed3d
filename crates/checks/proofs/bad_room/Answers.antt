-- `checks::bad_room` meets its contract. Assumes nothing.
use lib.Dec.{lit<}
use native.Mathlib.Omega.{arith}
use native.Mathlib.Nat.{lt_of_le_of_lt, mul-le-mul}
use Prim.Native.Nat.{◌*◌}
use mathlib.Core.Path.{refl}
use Rattle.checks.specs.Checks.{bad_room}
use Rattle.checks.proofs.bad_room.Goals as goal

pub overflow_mul-cells : goal.overflow_mul-cells
overflow_mul-cells c = record { fits = lt_of_le_of_lt (mul-le-mul {n₂ = 48} {m₂ = 49} (omega arith) (omega arith)) (lit< {m = 48 * 49} tt) }

pub returns : goal.returns
unfolding bad_room
returns c = refl
