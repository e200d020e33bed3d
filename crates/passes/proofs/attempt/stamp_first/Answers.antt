-- `passes::attempt::stamp_first` meets its contract: what is kept is what would be stamped. Assumes nothing.
use mathlib.Core.Path.{sym, ap, ◌∙◌}
use borrow.Author.Rules.{rules}
use Rattle.groups.specs.Sources.{driven_of}
use Rattle.loops.specs.Laws.Loop.{copied_same}
use Rattle.passes.proofs.Joins.{linear_anew}
use Rattle.passes.proofs.attempt.stamp_first.Goals as goal

pub returns-then-again : goal.returns-then-again
returns-then-again c =
    let z = c.requires in
    let k = z.held_len c.if-again.true in
    let e = c.copy.ensures ∙ copied_same _ _ (k.0 ∙ sym z.elimination_len) in
    record { stamps = ap (driven_of 0) e ∙ sym k.1; holds = λ _ _. sym e; rest = search rules }

pub returns : goal.returns
returns c =
    let z = c.requires in
    let t = c.stamp_linear-code in
    record { stamps = t.ensures ∙ linear_anew _ _ _ _ _ _ _ (sym z.elimination_len); holds = λ h _. c.copy-2.ensures ∙ copied_same _ _ (t.auto.matrix ∙ (z.elimination_len ∙ sym h)); rest = search rules }
