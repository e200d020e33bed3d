-- `sheet::kinds::node_at` meets its contract. Assumes nothing.
use Rattle.sheet.proofs.kinds.node_at.Goals as goal

pub returns : goal.returns
returns c = cc
