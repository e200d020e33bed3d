-- Each case of the call's answer is one of the definition's.
use Rattle.std.proofs.Common.{sym, ap}
use Rattle.savrunte.specs.Spreads.{spreads_answer}
use Rattle.savrunte.proofs.spreads_answer.Goals as goal

pub returns-in-Refused : goal.returns-in-Refused
unfolding spreads_answer
returns-in-Refused c = ap spreads_answer (sym c.in-Refused.is)

pub returns-in-Done : goal.returns-in-Done
unfolding spreads_answer
returns-in-Done c = ap spreads_answer (sym c.in-Done.is)
