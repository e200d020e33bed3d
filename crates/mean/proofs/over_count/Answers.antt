-- `mean::over_count` meets its contract.
use Rattle.std.proofs.Common.{sym, ◌∙◌}
use Rattle.mean.proofs.Rounds.{divided}
use Rattle.mean.proofs.over_count.Goals as goal

pub returns : goal.returns
returns c =
    let d = c.over-left.ensures in
    c.packed.ensures ∙ sym (divided c.args.minus _ c.args.count _ _ _ _ c.requires.3 (d.is ∙ c.difference-row.ensures.is) d.left c.leading-d.ensures)
