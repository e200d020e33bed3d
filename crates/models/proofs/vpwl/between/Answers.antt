-- `models::vpwl::between` meets its contract. Assumes nothing.
use borrow.Author.Rules.{rules}
use Prim.Native.Nat.{◌+◌, ◌-◌}
use mathlib.Core.Path.{sym, ◌∙◌}
use native.Mathlib.Nat.{add-zero, sub-zero}
use native.Mathlib.Omega.{arith}
use Rattle.models.proofs.Points.{no_point, reached, beyond}
use Rattle.models.proofs.vpwl.between.Goals as goal

pub loop-i-init : goal.loop-i-init
loop-i-init c = (search rules, rw (add-zero, sub-zero))

pub returns-else-t_cycle-tv : goal.returns-else-t_cycle-tv
returns-else-t_cycle-tv c =
    let l = c.loop-i in
    let a = c.args in
    let p = c.point_at-tv in
    sym (reached _ _ _ a.points.now a.first a.count l.i (omega arith) p.result p.ensures c.if-t_cycle-tv.false) ∙ l.invariant.1

pub loop-i-preserved : goal.loop-i-preserved
loop-i-preserved c =
    let l = c.loop-i in
    let a = c.args in
    let p = c.point_at-tv in
    (search rules, sym (beyond _ _ _ a.points.now a.first a.count l.i (omega arith) p.result p.ensures c.if-t_cycle-tv.true) ∙ l.invariant.1)

pub returns : goal.returns
returns c =
    let l = c.loop-i in
    let a = c.args in
    sym (no_point _ _ _ a.points.now (a.first + l.i) (a.count - l.i) (omega arith)) ∙ l.invariant.1
