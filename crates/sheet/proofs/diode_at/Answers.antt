-- `sheet::diode_at` meets its contract: the numbers of record i, read where a diode has them. Assumes nothing.
use Rattle.sheet.proofs.diode_at.Goals as goal

pub returns : goal.returns
returns c = rw (c.f64_at-2.ensures, c.f64_at.ensures, c.node_at-2.ensures, c.node_at.ensures, c.record_at-bytes.ensures)
