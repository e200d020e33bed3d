-- `sound::refusals::short_more` meets its contract.
use mathlib.Core.Path.{refl}
use Rattle.sound.specs.Refusals.{short_more}
use Rattle.sound.proofs.refusals.short_more.Goals as goal

pub returns : goal.returns
unfolding short_more
returns c = refl
