-- `groups::sources::source_at` meets its contract: a record of another kind would write nothing, and after a verdict none does. Assumes nothing.
use mathlib.Core.Path.{◌∙◌}
use borrow.Author.Tests.{eq-eqb, ne_eqb}
use Rattle.groups.specs.Sources.{driven_at, driven, driven_of}
use Rattle.groups.specs.Laws.Passing.{in_group}
use Rattle.groups.specs.Laws.Quiet.{quiet_driven}
use Rattle.groups.proofs.sources.source_at.Goals as goal

pub returns-then-code-ne0 : goal.returns-then-code-ne0
unfolding driven_at
returns-then-code-ne0 c = rw (ne_eqb _ _ c.if-code-ne0.true)

pub returns : goal.returns
unfolding driven_at
returns c =
    let a = c.args in
    let f = driven a.w a.points.now a.m.now in
    let g = in_group 5 7 a.sheet.now a.i f (driven_of 0 a.m.now) (quiet_driven a.w a.points.now a.m.now) in
    rw (eq-eqb _ _ c.if-code-ne0.false) (rw (c.record_in-d.ensures, c.number.ensures, c.number-2.ensures) at c.source_one.ensures ∙ g)
