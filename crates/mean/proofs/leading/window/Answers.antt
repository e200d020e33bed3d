-- `mean::leading::window` meets its contract.
use Rattle.std.proofs.Common.{◌≡◌, ℕ, ◌+◌, ◌*◌, ◌/◌, ◌^◌, ◌<◌, arith}
use Rattle.exact.specs.Limbs.{value}
use Rattle.mean.proofs.Places.{low_of, high_of, window_is}
use Rattle.mean.proofs.leading.window.Goals as goal

small : (n : ℕ) → n < 2 ^ 63 → n < 2 ^ 64
small n h = omega arith

short : (n m : ℕ) → n ≡ m → m < 2 ^ 63 → n < 2 ^ 64
short n m e h = omega arith

facts : (c : goal.After-limb-2) → (let l = c.args.l.now in let p = c.args.p in (low_of l p + high_of l p * 2 ≡ value l / 2 ^ p) × (high_of l p * 2 < 2 ^ 63))
facts c = window_is c.args.l.now c.args.p (λ j. (c.shared_slice_known-1.given j).fits) c.requires.1

pub overflow_mul-result : goal.overflow_mul-result
overflow_mul-result c = let f = (facts c).1 in record { fits = rw c.limb-2.ensures (small _ f) }

pub overflow_add-result : goal.overflow_add-result
overflow_add-result c = let f = facts c in record { fits = rw (c.limb.ensures, c.limb-2.ensures) (short _ _ f.0 c.requires.1) }

pub returns : goal.returns
returns c = rw (c.limb.ensures, c.limb-2.ensures) (facts c).0
