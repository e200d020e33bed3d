use Rattle.num.specs.Le.{float_at}
use Rattle.num.proofs.f64_at.Goals as goal

pub returns : goal.returns
unfolding float_at
returns c = cc
