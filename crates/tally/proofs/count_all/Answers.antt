-- `tally::count_all` meets its contract.
use mathlib.Core.Path.{◌∙◌}
use Rattle.tally.specs.Laws.Ready.{counts_of}
use Rattle.tally.proofs.count_all.Goals as goal

pub returns : goal.returns
returns c = c.count_to.ensures ∙ counts_of _ _ _
