-- `models::vpwl::evaluate` meets its contract. Assumes nothing.
use native.Mathlib.Omega.{arith}
use Rattle.models.specs.Vpwl.{pattern_at, points_from, level_at}
use Rattle.models.proofs.Points.{some_points}
use Rattle.models.proofs.vpwl.evaluate.Goals as goal

pub returns-then-count-eq0 : goal.returns-then-count-eq0
unfolding pattern_at points_from
returns-then-count-eq0 c = rw c.if-count-eq0.true

pub returns-then-past_end : goal.returns-then-past_end
unfolding level_at
returns-then-past_end c =
    let a = c.args in
    rw (some_points a.points.now a.first a.count _ _ _ (omega arith), ← c.point_at-last.ensures, ← c.past_end.ensures, c.if-past_end.true)

pub returns-then-t_cycle : goal.returns-then-t_cycle
unfolding level_at
returns-then-t_cycle c =
    let a = c.args in
    rw (some_points a.points.now a.first a.count _ _ _ (omega arith), ← c.point_at-last.ensures, ← c.past_end.ensures, c.if-past_end.false, ← c.remainder-t_cycle.ensures, c.if-t_cycle.true)

pub returns : goal.returns
unfolding level_at
returns c =
    let a = c.args in
    rw (some_points a.points.now a.first a.count _ _ _ (omega arith), ← c.point_at-last.ensures, ← c.past_end.ensures, c.if-past_end.false, ← c.remainder-t_cycle.ensures, c.if-t_cycle.false, ← c.between.ensures)
    c.level_on.ensures
