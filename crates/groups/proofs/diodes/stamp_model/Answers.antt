-- `groups::diodes::stamp_model` meets its contract: a model is stamped, and its memory put at the record's place. Assumes nothing.
use Rattle.groups.proofs.diodes.stamp_model.Goals as goal

pub returns : goal.returns
returns c = rw (c.in-Some.is, c.stamp_diode.ensures, c.put.ensures)
