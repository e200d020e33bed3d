-- `mean::leading::mark` meets its contract.
use Rattle.mean.proofs.leading.mark.Goals as goal

pub returns-else-clear : goal.returns-else-clear
returns-else-clear c = rw c.if-clear.false
