-- Each case of the judge is one of the definition's.
use Rattle.std.proofs.Common.{ap}
use Rattle.savrunte.specs.Answers.{judge_answer}
use Rattle.savrunte.proofs.savrunte_judge.Goals as goal

pub returns-in-Ok-Accepted : goal.returns-in-Ok-Accepted
unfolding judge_answer
returns-in-Ok-Accepted c = ap (judge_answer _) (rw c.in-Ok-Accepted.field-0-is at c.in-Ok-Accepted.ensures)

pub returns-in-Ok-Rejected : goal.returns-in-Ok-Rejected
unfolding judge_answer
returns-in-Ok-Rejected c = ap (judge_answer _) (rw c.in-Ok-Rejected.field-0-is at c.in-Ok-Rejected.ensures)

pub returns-in-Err : goal.returns-in-Err
unfolding judge_answer
returns-in-Err c = rw c.number.ensures (ap (judge_answer _) c.in-Err.ensures)
