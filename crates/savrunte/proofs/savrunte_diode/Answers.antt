-- Each case of the diode is one of the definition's.
use Rattle.std.proofs.Common.{sym, ap, ◌∙◌}
use Rattle.savrunte.specs.Answers.{diode_answer}
use Rattle.savrunte.proofs.savrunte_diode.Goals as goal

pub returns-in-Some : goal.returns-in-Some
unfolding diode_answer
returns-in-Some c = ap (diode_answer _) (sym c.in-Some.is ∙ c.linearize-d.ensures)

pub returns-in-None : goal.returns-in-None
unfolding diode_answer
returns-in-None c = ap (diode_answer _) (sym c.in-None.is ∙ c.linearize-d.ensures)
