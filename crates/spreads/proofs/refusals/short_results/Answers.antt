-- `spreads::refusals::short_results` meets its contract.
use Prim.Native.Nat.{◌*◌}
use mathlib.Core.Path.{refl}
use native.Mathlib.Nat.{lt_of_le_of_lt, mul-le-mul}
use lib.Dec.{lit<}
use Rattle.spreads.specs.Refusals.{short_results}
use Rattle.spreads.proofs.refusals.short_results.Goals as goal

pub overflow_mul-result : goal.overflow_mul-result
overflow_mul-result c = record { fits = lt_of_le_of_lt (mul-le-mul {n₂ = 256} {m₂ = 48} c.requires.1 c.requires.0) (lit< {m = 256 * 48} tt) }

pub returns : goal.returns
unfolding short_results
returns c = refl
