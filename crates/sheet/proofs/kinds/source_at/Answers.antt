-- `sheet::kinds::source_at` meets its contract. Assumes nothing.
use Rattle.sheet.proofs.kinds.source_at.Goals as goal

pub returns : goal.returns
returns c = cc
