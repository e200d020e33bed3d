-- `groups::records::across` meets its contract: a difference of two reads. Assumes nothing.
use Rattle.groups.proofs.records.across.Goals as goal

pub returns : goal.returns
returns c = rw (c.number_at-2.ensures, c.number_at.ensures)
