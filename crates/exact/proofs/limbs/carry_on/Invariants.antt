-- The invariant of `exact::limbs::carry_on`: the limbs with the carry at i are what is to come out.
use Rattle.std.proofs.Common.{◌≡◌, ◌+◌, ◌*◌, ◌^◌, length}
use Rattle.std.specs.Int.{from_bool}
use Rattle.exact.specs.Limbs.{value}
use Rattle.exact.proofs.limbs.carry_on.Given as goal

abbrev pub invariant-loop-i : goal.invariant-loop-i
invariant-loop-i l = (length l.limbs ≡ length l.initial.limbs) × (value l.limbs + from_bool l.left * 2 ^ (64 * l.i) ≡ value l.initial.limbs + from_bool l.carry * 2 ^ (64 * l.from))
