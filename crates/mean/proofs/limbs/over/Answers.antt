-- `mean::limbs::over` meets its contract.
use Rattle.std.proofs.Common.{◌≡◌, arith, rules}
use Rattle.mean.proofs.Turns.{lowered_start, lowered_turn, lowered_end}
use Rattle.mean.proofs.limbs.over.Goals as goal

pub loop-i-init : goal.loop-i-init
loop-i-init c = (search rules, lowered_start _ _ c.requires.0)

pub loop-i-preserved : goal.loop-i-preserved
loop-i-preserved c =
    let l = c.loop-i in
    (search rules, lowered_turn _ l.l _ l.i l.left _ _ (omega arith) (omega arith) c.part-whole.ensures.0 c.part-whole.ensures.1 l.invariant.1)

pub returns : goal.returns
returns c =
    let l = c.loop-i in
    let z : l.i ≡ 0 = omega arith in
    record { limbs = l.invariant.1.limbs; is = lowered_end _ l.l _ l.left (rw z at l.invariant.1); left = l.invariant.1.left }
