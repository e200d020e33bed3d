-- `decimal::limbs::times` meets its contract.
use borrow.Author.Rules.{rules}
use native.Mathlib.Omega.{arith}
use mathlib.Core.Path.{refl}
use Prim.Native.Nat.{ℕ, ◌+◌, ◌^◌, ◌<◌}
use Rattle.decimal.proofs.Value.{raised_start, raised_more, raised_end, product_fits}
use Rattle.decimal.proofs.limbs.times.Goals as goal

le-sum : (a b : ℕ) → a + b < 2 ^ 64 → a < 2 ^ 64
le-sum a b h = omega arith

pub loop-limb-init : goal.loop-limb-init
loop-limb-init c = (search rules, raised_start _ _ c.requires.1)

pub overflow_mul-t : goal.overflow_mul-t
overflow_mul-t c =
    let l = c.loop-limb in
    record { fits = le-sum _ l.carry (product_fits _ _ l.carry (l.invariant.1.few l.limb-index) c.requires.0 l.invariant.1.carry) }

pub overflow_add-t : goal.overflow_add-t
overflow_add-t c =
    let l = c.loop-limb in
    record { fits = product_fits _ _ l.carry (l.invariant.1.few l.limb-index) c.requires.0 l.invariant.1.carry }

pub loop-limb-preserved : goal.loop-limb-preserved
loop-limb-preserved c =
    let l = c.loop-limb in
    (search rules, raised_more _ l.l _ l.limb-index l.carry _ (omega arith) c.requires.0 l.invariant.1 refl)

pub returns : goal.returns
returns c =
    let l = c.loop-limb in
    record { few = l.invariant.1.few; limbs = l.invariant.1.limbs; is = raised_end _ l.l _ l.limb-index l.carry (omega arith) (omega arith) c.requires.2 l.invariant.1 }
