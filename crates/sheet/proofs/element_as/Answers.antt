-- `sheet::element_as` meets its contract. Assumes nothing.
use mathlib.Core.Path.{ap, ◌∙◌}
use Rattle.sheet.specs.Record.{decode_as}
use Rattle.sheet.proofs.element_as.Goals as goal

pub returns : goal.returns
returns c = c.decode_as.ensures ∙ ap (decode_as _) c.record_at.ensures
