-- `engine::told::refused` meets its contract.
use Rattle.engine.specs.Engine.{refused_of}
use Rattle.engine.proofs.told.refused.Goals as goal

pub returns : goal.returns
unfolding refused_of
returns c = rw c.number.ensures
