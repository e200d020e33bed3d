-- `solve::pivot::reach` meets its contract. Assumes nothing.
use Rattle.std.proofs.Common.{⊎_elim, eq-or-lt_of_le, arith, rules}
use Rattle.solve.proofs.Search.{not_ne}
use Rattle.solve.proofs.pivot.reach.Goals as goal

pub loop-r-init : goal.loop-r-init
loop-r-init c = (search rules, search rules, λ q p h. absurd (omega arith))

pub loop-r-preserved : goal.loop-r-preserved
loop-r-preserved c =
    let l = c.loop-r in
    let z = not_ne _ (rw c.entry.ensures at c.if-entry.false) in
    (search rules, search rules, λ q p h. ⊎_elim (λ e. rw (← e) z) (λ g. l.invariant.2 q (omega arith) h) (eq-or-lt_of_le p))

pub returns-then-entry : goal.returns-then-entry
returns-then-entry c =
    let l = c.loop-r in
    (omega arith, omega arith, λ q p h. l.invariant.2 q (omega arith) h)

pub returns : goal.returns
returns c =
    let l = c.loop-r in
    (omega arith, omega arith, λ q p h. l.invariant.2 q (omega arith) h)
