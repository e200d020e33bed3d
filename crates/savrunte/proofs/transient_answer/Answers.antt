-- Each case of the outcome is one of the definition's.
use Rattle.std.proofs.Common.{sym, ap}
use Rattle.savrunte.specs.Runs.{transient_answer}
use Rattle.savrunte.proofs.transient_answer.Goals as goal

pub returns-in-Refused : goal.returns-in-Refused
unfolding transient_answer
returns-in-Refused c = ap transient_answer (sym c.in-Refused.is)

pub returns-in-Ended : goal.returns-in-Ended
unfolding transient_answer
returns-in-Ended c = rw (c.number.ensures, c.number-in-Ended.ensures) (ap transient_answer (sym c.in-Ended.is))
