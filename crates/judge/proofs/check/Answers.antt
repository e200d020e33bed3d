-- `judge::check` meets its contract.
use Rattle.std.proofs.Common.{arith}
use Rattle.std.proofs.lemmas.Bool.Decides.{nat_tests}
use Rattle.judge.specs.Judge.{judge_refusal}
use Rattle.judge.proofs.check.Goals as goal

pub returns-then-n-eq0 : goal.returns-then-n-eq0
unfolding judge_refusal
returns-then-n-eq0 c = grind (arith, nat_tests)

pub returns-then-m-size : goal.returns-then-m-size
unfolding judge_refusal
returns-then-m-size c = grind (arith, nat_tests)

pub returns-then-not-finite : goal.returns-then-not-finite
unfolding judge_refusal
returns-then-not-finite c = grind (arith, nat_tests)

pub returns : goal.returns
unfolding judge_refusal
returns c = grind (arith, nat_tests)
