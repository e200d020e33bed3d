-- `checks::refusal` meets its contract. Assumes nothing.
use mathlib.Core.Path.{sym, ◌∙◌}
use Rattle.checks.specs.Checks.{sizes_fault}
use Rattle.checks.specs.Laws.Checks.{order_small}
use Rattle.checks.proofs.refusal.Goals as goal

pub returns-then-bad_order : goal.returns-then-bad_order
unfolding sizes_fault
returns-then-bad_order c = simp (sym c.bad_order.ensures ∙ c.if-bad_order.true)

pub returns-then-bad_sheet : goal.returns-then-bad_sheet
unfolding sizes_fault
returns-then-bad_sheet c = simp (sym c.bad_order.ensures ∙ c.if-bad_order.false, sym c.bad_sheet.ensures ∙ c.if-bad_sheet.true)

pub returns-then-bad_points : goal.returns-then-bad_points
unfolding sizes_fault
returns-then-bad_points c = simp (sym c.bad_order.ensures ∙ c.if-bad_order.false, sym c.bad_sheet.ensures ∙ c.if-bad_sheet.false, sym c.bad_points.ensures ∙ c.if-bad_points.true)

pub returns-then-bad_counts : goal.returns-then-bad_counts
unfolding sizes_fault
returns-then-bad_counts c = simp (sym c.bad_order.ensures ∙ c.if-bad_order.false, sym c.bad_sheet.ensures ∙ c.if-bad_sheet.false, sym c.bad_points.ensures ∙ c.if-bad_points.false, sym c.bad_counts.ensures ∙ c.if-bad_counts.true)

pub bad_room-requires : goal.bad_room-requires
bad_room-requires c = order_small _ _ (sym c.bad_order.ensures ∙ c.if-bad_order.false)

pub returns-then-bad_room : goal.returns-then-bad_room
unfolding sizes_fault
returns-then-bad_room c = simp (sym c.bad_order.ensures ∙ c.if-bad_order.false, sym c.bad_sheet.ensures ∙ c.if-bad_sheet.false, sym c.bad_points.ensures ∙ c.if-bad_points.false, sym c.bad_counts.ensures ∙ c.if-bad_counts.false, sym c.bad_room.ensures ∙ c.if-bad_room.true)

pub returns : goal.returns
unfolding sizes_fault
returns c = simp (sym c.bad_order.ensures ∙ c.if-bad_order.false, sym c.bad_sheet.ensures ∙ c.if-bad_sheet.false, sym c.bad_points.ensures ∙ c.if-bad_points.false, sym c.bad_counts.ensures ∙ c.if-bad_counts.false, sym c.bad_room.ensures ∙ c.if-bad_room.false)
