-- Each case of the check is one of the definition's.
use Rattle.std.proofs.Common.{sym, ap, ◌∙◌}
use Rattle.savrunte.specs.Answers.{convergence_answer}
use Rattle.savrunte.proofs.savrunte_convergence.Goals as goal

pub returns-in-Yes : goal.returns-in-Yes
unfolding convergence_answer
returns-in-Yes c = ap convergence_answer (sym c.in-Yes.is ∙ c.convergence_check-c.ensures)

pub returns-in-No : goal.returns-in-No
unfolding convergence_answer
returns-in-No c = ap convergence_answer (sym c.in-No.is ∙ c.convergence_check-c.ensures)

pub returns-in-Error : goal.returns-in-Error
unfolding convergence_answer
returns-in-Error c = ap convergence_answer (sym c.in-Error.is ∙ c.convergence_check-c.ensures)

pub returns-in-Refused : goal.returns-in-Refused
unfolding convergence_answer
returns-in-Refused c = ap convergence_answer (sym c.in-Refused.is ∙ c.convergence_check-c.ensures)
