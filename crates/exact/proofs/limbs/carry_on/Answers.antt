-- `exact::limbs::carry_on` meets its contract.
use Rattle.std.proofs.Common.{◌≡◌, ℕ, ◌+◌, ◌*◌, ◌^◌, ◌<◌, ◌≤◌, Bool, true, false, length, sym, subst, zero-mul, not-le_of_lt, arith}
use Rattle.std.specs.Int.{from_bool}
use Rattle.exact.specs.Limbs.{value}
use Rattle.exact.proofs.Carry.{inside}
use Rattle.exact.proofs.limbs.carry_on.Goals as goal

-- past the end there is no carry
none_left : (b : Bool) (v i n m : ℕ) → n ≤ i → v + from_bool b * 2 ^ (64 * i) ≡ m → m < 2 ^ (64 * n) → from_bool b * 2 ^ (64 * i) ≡ 0
none_left true v i n m h e l = absurd (not-le_of_lt (inside v 1 i n (omega arith) (subst (λ (k : ℕ). k < 2 ^ (64 * n)) (sym e) l)) h)
none_left false v i n m h e l = zero-mul (2 ^ (64 * i))

pub returns : goal.returns
returns c =
    let l = c.loop-i in
    let none = none_left l.left (value l.limbs) l.i (length c.args.limbs.now) _ (omega arith) l.invariant.1 c.requires in
    record { limbs = l.invariant.0; sum = omega arith }
