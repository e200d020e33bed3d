-- Each case of the sine is one of the definition's.
use Rattle.std.proofs.Common.{sym, ap, ◌∙◌}
use Rattle.savrunte.specs.Answers.{sin_answer}
use Rattle.savrunte.proofs.savrunte_sin.Goals as goal

pub returns-in-Some : goal.returns-in-Some
unfolding sin_answer
returns-in-Some c = ap sin_answer (sym c.in-Some.is ∙ c.sin-s.ensures)

pub returns-in-None : goal.returns-in-None
unfolding sin_answer
returns-in-None c = ap sin_answer (sym c.in-None.is ∙ c.sin-s.ensures)
