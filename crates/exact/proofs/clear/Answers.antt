-- `exact::clear` meets its contract.
use Rattle.std.proofs.Common.{length, ◌∙◌, rules}
use Rattle.exact.specs.Laws.Limbs.{zeros}
use Rattle.exact.proofs.clear.Goals as goal

pub returns : goal.returns
returns c = c.fill.ensures.after (search rules) ∙ zeros (length c.args.row.now)
