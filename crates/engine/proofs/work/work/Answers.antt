-- `engine::work::work` meets its contract.
use mathlib.Core.Path.{◌∙◌}
use Rattle.passes.specs.Laws.Lent.{after}
use Rattle.engine.proofs.Whole.{worked}
use Rattle.engine.proofs.work.work.Goals as goal

pub shape_of-accepted : goal.shape_of-accepted
shape_of-accepted c = c.run.auto.accepted ∙ c.begin.auto.accepted

pub returns : goal.returns
returns c =
    let a = c.args in
    let w = a.w.now in
    let k = c.begin.ensures.kept in
    record {
      all = worked _ _ _ w.base.now a.accepted.now w.system.now w.vector.now w.memory.now _ _ _ _ _ _ _ _
          c.begin.ensures.all (rw (c.started.ensures, k.elimination_length) at c.run.ensures.runs) c.requires.stamped c.requires.accepted_len c.requires.fit;
      kept = after c.run.ensures.kept k;
    }
