-- `decimal::limbs::over_power` meets its contract.
use borrow.Author.Rules.{rules}
use native.Mathlib.Omega.{arith}
use mathlib.Core.Path.{◌≡◌}
use Rattle.decimal.specs.Limbs.{value}
use Rattle.decimal.proofs.Powers.{over_none, even_none, over_more, even_more}
use Rattle.std.proofs.Common.{◌≡◌, Bool, true, false, ◌&&◌, refl, eqb}
use Rattle.decimal.proofs.limbs.over_power.Goals as goal

and_comm : (a b : Bool) → a && b ≡ b && a
and_comm true true = refl
and_comm true false = refl
and_comm false true = refl
and_comm false false = refl

pub loop-i-init : goal.loop-i-init
loop-i-init c = (search rules, over_none _ _ c.requires.2, even_none (value c.args.l.now) c.args.d)

pub over-requires : goal.over-requires
over-requires c = (c.requires.0, c.requires.1, c.loop-i.invariant.1.few)

pub loop-i-preserved : goal.loop-i-preserved
loop-i-preserved c =
    let l = c.loop-i in
    let o = c.over in
    (search rules, over_more _ _ _ l.i o.result l.l _ c.requires.0 l.invariant.1 o.ensures, even_more _ _ _ l.i o.result l.l _ l.even _ c.requires.0 l.invariant.1 o.ensures l.invariant.2 (and_comm l.even (eqb o.result 0)))

pub returns : goal.returns
returns c =
    let l = c.loop-i in
    let e : l.i ≡ c.args.n = omega arith in
    (rw e at l.invariant.1, rw e at l.invariant.2)
