-- Each case of the call's answer is one of the definition's.
use Rattle.std.proofs.Common.{sym, ap}
use Rattle.savrunte.specs.Sound.{sound_answer}
use Rattle.savrunte.proofs.sound_answer.Goals as goal

pub returns-in-Refused : goal.returns-in-Refused
unfolding sound_answer
returns-in-Refused c = ap sound_answer (sym c.in-Refused.is)

pub returns-in-Done : goal.returns-in-Done
unfolding sound_answer
returns-in-Done c = ap sound_answer (sym c.in-Done.is)
