-- `models::vpwl::evaluate_first` meets its contract: each return is a sentence of `pattern_first_at`, in the same order. Assumes nothing.
use mathlib.Core.Path.{refl}
use native.Mathlib.Omega.{arith}
use borrow.Author.Tests.{eq-eqb, ne_eqb}
use Rattle.models.specs.Vpwl.{pattern_first_at, points_from}
use Rattle.models.proofs.Points.{some_first}
use Rattle.models.proofs.vpwl.evaluate_first.Goals as goal

pub returns-then-count-eq0 : goal.returns-then-count-eq0
unfolding pattern_first_at points_from
returns-then-count-eq0 c = rw c.if-count-eq0.true

pub returns-then-t-t_delay : goal.returns-then-t-t_delay
returns-then-t-t_delay c =
    let a = c.args in
    rw (some_first a.points.now a.first a.count a.t_delay a.repeat a.t _ _ (omega arith) refl refl, c.if-t-t_delay.true)

pub returns-then-at_end : goal.returns-then-at_end
returns-then-at_end c =
    let a = c.args in
    let rule = some_first a.points.now a.first a.count a.t_delay a.repeat a.t _ _ (omega arith) refl c.point_at-last.ensures in
    rw (rule, c.if-t-t_delay.false, ← c.at_end.ensures, c.if-at_end.true)

pub returns-then-count-eq1 : goal.returns-then-count-eq1
returns-then-count-eq1 c =
    let a = c.args in
    let rule = some_first a.points.now a.first a.count a.t_delay a.repeat a.t _ _ (omega arith) c.point_at-start.ensures c.point_at-last.ensures in
    rw (rule, c.if-t-t_delay.false, ← c.at_end.ensures, c.if-at_end.false, eq-eqb _ _ c.if-count-eq1.true)

pub returns-then-not-t_cycle-start : goal.returns-then-not-t_cycle-start
returns-then-not-t_cycle-start c =
    let a = c.args in
    let rule = some_first a.points.now a.first a.count a.t_delay a.repeat a.t _ _ (omega arith) c.point_at-start.ensures c.point_at-last.ensures in
    rw (rule, c.if-t-t_delay.false, ← c.at_end.ensures, c.if-at_end.false, ne_eqb _ _ c.if-count-eq1.false, ← c.remainder-t_cycle.ensures, c.if-not-t_cycle-start.true)

pub returns : goal.returns
returns c =
    let a = c.args in
    let rule = some_first a.points.now a.first a.count a.t_delay a.repeat a.t _ _ (omega arith) c.point_at-start.ensures c.point_at-last.ensures in
    rw (rule, c.if-t-t_delay.false, ← c.at_end.ensures, c.if-at_end.false, ne_eqb _ _ c.if-count-eq1.false, ← c.remainder-t_cycle.ensures, c.if-not-t_cycle-start.false) c.evaluate.ensures
