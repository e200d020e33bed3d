-- `sound::causes::find` meets its contract.
use mathlib.Core.Path.{ap, ◌∙◌}
use borrow.Author.Tests.{eq-eqb, ne_eqb}
use Rattle.sound.specs.Causes.{heard, cause_of}
use Rattle.sound.proofs.causes.find.Goals as goal

pub returns-then-m : goal.returns-then-m
unfolding cause_of
returns-then-m c = rw (ne_eqb _ _ c.if-m.true)

pub returns-then-m-ne0 : goal.returns-then-m-ne0
unfolding cause_of
returns-then-m-ne0 c = rw (eq-eqb _ _ c.if-m.false, ne_eqb _ _ c.if-m-ne0.true)

pub returns-then-tolerances-eq0 : goal.returns-then-tolerances-eq0
unfolding cause_of
returns-then-tolerances-eq0 c = rw (eq-eqb _ _ c.if-m.false, eq-eqb _ _ c.if-m-ne0.false, eq-eqb _ _ c.if-tolerances-eq0.true)

pub returns : goal.returns
unfolding cause_of
returns c =
    rw (eq-eqb _ _ c.if-m.false, eq-eqb _ _ c.if-m-ne0.false, ne_eqb _ _ c.if-tolerances-eq0.false)
    (c.heard.ensures ∙ ap heard c.judge.ensures)
