-- `steps::row_due` meets its contract: "not equal" is what the definition says by "not" and "equal".
use Rattle.std.proofs.Math.Path.{refl}
use Rattle.std.specs.Float.Ieee as Ieee
use Rattle.steps.proofs.row_due.Goals as goal

pub returns-then-o-time : goal.returns-then-o-time
unfolding Ieee.eq Ieee.ne
returns-then-o-time c = rw c.if-o-time.true refl
