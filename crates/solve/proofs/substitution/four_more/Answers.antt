-- `solve::substitution::four_more` meets its contract. Assumes nothing.
use mathlib.Core.Path.{refl}
use Rattle.solve.specs.Inner.{four_more}
use Rattle.solve.proofs.substitution.four_more.Goals as goal

pub returns : goal.returns
unfolding four_more
returns c = refl
