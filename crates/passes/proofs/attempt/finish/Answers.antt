-- `passes::attempt::finish` meets its contract: by the verdict of the diodes. Assumes nothing.
use mathlib.Core.Path.{sym, ◌∙◌}
use borrow.Author.Rules.{rules}
use Rattle.loops.specs.Laws.Loop.{copied_same}
use Rattle.groups.specs.Laws.Listed.{listed_whole}
use Rattle.passes.proofs.Joins.{finish_failed, finish_solved}
use Rattle.passes.proofs.attempt.finish.Goals as goal

pub returns-then-code-ne0 : goal.returns-then-code-ne0
returns-then-code-ne0 c =
    let a = c.args in
    let w = a.w.now in
    record {
      all = rw c.failure.ensures
          (finish_failed _ _ _ w.elimination.now w.system.now w.vector.now w.memory.now _ _ _
          (c.stamp_diodes-code.ensures ∙ listed_whole _ a.k.sheet.now a.places.now _ w.vector.now w.elimination.now w.memory.now c.requires.listed) c.if-code-ne0.true);
      kept = search rules;
    }

pub renew-requires : goal.renew-requires
renew-requires c =
    let z = c.requires.square.0 in
    record { some = z.some; small = z.small; cells = c.stamp_diodes-code.auto.m ∙ z.cells }

pub returns : goal.returns
returns c =
    let a = c.args in
    let z = c.requires in
    let d = c.stamp_diodes-code in
    let w = a.w.now in
    record {
      all = finish_solved _ _ _ w.elimination.now w.system.now w.vector.now w.memory.now _ _ _
          (d.ensures ∙ listed_whole _ a.k.sheet.now a.places.now _ w.vector.now w.elimination.now w.memory.now z.listed)
          c.if-code-ne0.false _ _ _ (c.copy.ensures ∙ copied_same _ _ (d.auto.m ∙ sym z.square.1)) c.renew.ensures;
      kept = search rules;
    }
