-- `decimal::limbs::times_power` meets its contract.
use borrow.Author.Rules.{rules}
use native.Mathlib.Omega.{arith}
use mathlib.Core.Path.{◌≡◌}
use Rattle.decimal.proofs.Powers.{times_none, times_room, times_more}
use Rattle.decimal.proofs.limbs.times_power.Goals as goal

pub loop-i-init : goal.loop-i-init
loop-i-init c = (search rules, times_none _ _ c.requires.2)

pub times-requires : goal.times-requires
times-requires c =
    let l = c.loop-i in
    (c.requires.1, l.invariant.1.few, times_room _ _ _ l.i _ l.l c.requires.0 c.loop-i-test.true c.requires.3 l.invariant.1)

pub loop-i-preserved : goal.loop-i-preserved
loop-i-preserved c =
    let l = c.loop-i in
    (search rules, times_more _ _ _ l.i l.l _ l.invariant.1 c.times.ensures)

pub returns : goal.returns
returns c =
    let l = c.loop-i in
    let e : l.i ≡ c.args.n = omega arith in
    rw e at l.invariant.1
