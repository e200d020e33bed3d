-- `sheet::element_at` meets its contract. Assumes nothing.
use mathlib.Core.Path.{ap, ◌∙◌}
use Rattle.sheet.specs.Record.{decode_of}
use Rattle.sheet.proofs.element_at.Goals as goal

pub returns : goal.returns
returns c = c.decode.ensures ∙ ap decode_of c.record_at.ensures
