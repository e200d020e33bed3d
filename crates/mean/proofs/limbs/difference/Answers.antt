-- `mean::limbs::difference` meets its contract.
use Rattle.std.specs.Int.{from_bool}
use Rattle.std.proofs.Common.{Bool, true, false, ◌≤◌, length, ap, ◌∙◌, arith, rules}
use Rattle.exact.specs.Laws.Limbs.{length_limbs}
use Rattle.mean.proofs.Turns.{lessened_start, lessened_more, lessened_end}
use Rattle.mean.proofs.limbs.difference.Goals as goal

one_at_most : (b : Bool) → from_bool b ≤ 1
one_at_most true = omega arith
one_at_most false = omega arith

pub loop-i-init : goal.loop-i-init
loop-i-init c = (search rules, lessened_start _ _ _ (ap length c.empty-r.ensures ∙ length_limbs 66 0))

pub loop-i-preserved : goal.loop-i-preserved
loop-i-preserved c =
    let l = c.loop-i in
    (search rules, lessened_more _ _ l.r (from_bool l.borrow) l.i _ (from_bool c.borrowing_sub-word.result.1) (omega arith) (omega arith) c.borrowing_sub-word.ensures (one_at_most _) l.invariant.1)

pub returns : goal.returns
returns c =
    let l = c.loop-i in
    record { limbs = l.invariant.1.limbs; is = lessened_end _ _ l.r (from_bool l.borrow) l.i (omega arith) c.requires.0 c.requires.1 c.requires.2 l.invariant.1 }
