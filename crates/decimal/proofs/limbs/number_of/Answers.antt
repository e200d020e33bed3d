-- `decimal::limbs::number_of` meets its contract.
use native.Mathlib.Omega.{arith}
use mathlib.Core.Path.{sym, subst}
use Prim.Native.Nat.{ℕ, ◌^◌, ◌<◌}
use Rattle.decimal.proofs.Value.{two_limbs}
use Rattle.decimal.proofs.limbs.number_of.Goals as goal

pub overflow_mul-result : goal.overflow_mul-result
overflow_mul-result c = record { fits = omega (arith, c.requires.1 1) }

pub overflow_add-result : goal.overflow_add-result
overflow_add-result c = record { fits = subst (λ (n : ℕ). n < 2 ^ 64) (sym (two_limbs _ c.requires.0 c.requires.2)) c.requires.2 }

pub returns : goal.returns
returns c = two_limbs _ c.requires.0 c.requires.2
