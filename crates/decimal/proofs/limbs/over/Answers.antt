-- `decimal::limbs::over` meets its contract.
use borrow.Author.Rules.{rules}
use native.Mathlib.Omega.{arith}
use mathlib.Core.Path.{◌≡◌, refl}
use Prim.Native.Nat.{◌-◌, ◌^◌, ◌<◌}
use Rattle.decimal.proofs.Value.{lowered_start, lowered_turn, lowered_end, dividend_fits}
use Rattle.decimal.proofs.limbs.over.Goals as goal

pub loop-i-init : goal.loop-i-init
loop-i-init c = (search rules, lowered_start _ _ c.requires.0 c.requires.2)

pub overflow_mul-t : goal.overflow_mul-t
overflow_mul-t c =
    let l = c.loop-i in
    let h : l.left < 2 ^ 32 = omega arith in
    record { fits = omega arith }

pub overflow_add-t : goal.overflow_add-t
overflow_add-t c =
    let l = c.loop-i in
    record { fits = dividend_fits l.left _ _ l.invariant.1.left c.requires.1 (l.invariant.1.few (l.i - 1)) }

pub loop-i-preserved : goal.loop-i-preserved
loop-i-preserved c =
    let l = c.loop-i in
    (search rules, lowered_turn _ l.l _ l.i l.left _ (omega arith) (omega arith) c.requires.0 l.invariant.1 refl)

pub returns : goal.returns
returns c =
    let l = c.loop-i in
    let z : l.i ≡ 0 = omega arith in
    record { few = l.invariant.1.few; limbs = l.invariant.1.limbs; is = lowered_end _ l.l _ l.left (rw z at l.invariant.1); left = l.invariant.1.left }
