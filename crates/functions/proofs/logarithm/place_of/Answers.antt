-- `functions::logarithm::place_of` meets its contract. Assumes nothing.
use Rattle.functions.proofs.logarithm.place_of.Goals as goal

pub returns-then-h : goal.returns-then-h
returns-then-h c = rw c.if-h.true
