-- `passes::attempt::renew_in` meets its contract.
use Rattle.passes.proofs.Joins.{renews}
use Rattle.passes.proofs.attempt.renew_in.Goals as goal

pub returns : goal.returns
returns c =
    let z = c.requires in
    renews _ _ _ _ _ _ _ _ _ _ _ _ z.0 z.1 c.solve.ensures c.clear_if.ensures c.clear_if.auto.x c.convergence_check-r.ensures c.copy.ensures c.from.ensures
