-- `single::run_alone` meets its contract.
use Rattle.single.specs.Laws.Alone.{was_marked, was_scratched}
use Rattle.single.proofs.run_alone.Goals as goal

pub returns : goal.returns
returns c =
    let a = c.args in
    let i = a.i in
    let z = rw (c.fill.ensures.after (λ y e. e), c.fill-2.ensures.after (λ y e. e), c.fill-3.ensures.after (λ y e. e)) at c.dc_operating_point-r.ensures in
    record {
      all = was_marked i.options i.nodes i.sources i.sheet.now i.points.now a.base.now a.system.now a.elimination.now a.vector.now a.memory.now _ _ z.all c.marked.ensures;
      scratch = was_scratched i.options i.nodes i.sources i.sheet.now i.points.now a.base.now a.system.now a.elimination.now a.vector.now a.memory.now _ z.scratch;
    }
