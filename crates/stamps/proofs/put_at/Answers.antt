-- `stamps::put_at` meets its contract: one write at its spot, or past the end none.
use mathlib.Core.Path.{sym}
use Rattle.stamps.proofs.Writes.{within, beyond}
use Rattle.stamps.proofs.put_at.Goals as goal

pub returns-in-Some : goal.returns-in-Some
returns-in-Some c = sym (within _ _ _ _ c.in-Some.ensures.1)

pub returns-in_default : goal.returns-in_default
returns-in_default c = sym (beyond _ _ _ c.in_default.ensures)
