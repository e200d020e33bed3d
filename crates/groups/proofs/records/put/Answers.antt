-- `groups::records::put` meets its contract: past the end there is nothing to set. Assumes nothing.
use mathlib.Core.Path.{sym}
use lib.Seq.{set_out}
use Rattle.groups.proofs.records.put.Goals as goal

pub returns-then-x-i : goal.returns-then-x-i
returns-then-x-i c = sym (set_out _ _ _ c.if-x-i.true)
