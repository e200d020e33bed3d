-- `passes::attempt::attempt` meets its contract: the pass, and what waiting makes of its report where the option is on. Assumes nothing.
use mathlib.Core.Path.{sym, ap, ◌∙◌}
use Rattle.steps.specs.Control.{solved}
use Rattle.steps.specs.Laws.Waited.{waited_solved}
use Rattle.passes.proofs.Joins.{waits}
use Rattle.passes.proofs.attempt.attempt.Goals as goal

pub returns : goal.returns
returns c =
    let p = c.solve_pass-r.ensures in
    let w = c.wait.ensures in
    record { all = waits _ _ _ _ _ _ _ _ _ _ _ _ p.all w; left = λ s. p.left (sym (waited_solved _ _ _) ∙ (ap solved (sym w) ∙ s)); kept = p.kept }
