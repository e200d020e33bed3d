-- `groups::records::number_at` meets its contract: past the end 0.0 / 0.0 is what the definition reads. Assumes nothing.
use mathlib.Core.Path.{sym, ◌∙◌}
use lib.Ieee.{nan}
use Rattle.groups.proofs.Numbers.{no_number, past}
use Rattle.groups.proofs.records.number_at.Goals as goal

pub returns-then-x-i : goal.returns-then-x-i
returns-then-x-i c = no_number ∙ sym (past c.args.x.now _ nan c.if-x-i.true)
