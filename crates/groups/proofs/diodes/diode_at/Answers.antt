-- `groups::diodes::diode_at` meets its contract: a diode may be read as one, and any other record writes nothing. Assumes nothing.
use mathlib.Core.Path.{sym, ◌∙◌}
use Rattle.groups.specs.Diodes.{stamped_of}
use Rattle.groups.specs.Laws.Listed.{read_diode, no_diode}
use Rattle.groups.proofs.diodes.diode_at.Goals as goal

pub returns-then-diode_in : goal.returns-then-diode_in
returns-then-diode_in c =
    let a = c.args in
    c.as_diode.ensures ∙ read_diode a.sheet.now a.i a.o a.n a.x.now (stamped_of a.code a.m.now a.memory.now) (sym c.diode_in.ensures ∙ c.if-diode_in.true)

pub returns : goal.returns
returns c = sym (no_diode _ _ _ _ _ _ (sym c.diode_in.ensures ∙ c.if-diode_in.false))
