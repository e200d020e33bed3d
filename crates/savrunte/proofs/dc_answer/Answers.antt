-- The transient's answer has the same numbers.
use Rattle.savrunte.specs.Runs.{dc_answer, transient_answer}
use Rattle.savrunte.proofs.dc_answer.Goals as goal

pub returns : goal.returns
unfolding dc_answer transient_answer
returns c = rw c.transient_answer-t.ensures
