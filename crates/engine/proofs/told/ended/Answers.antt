-- `engine::told::ended` meets its contract.
use Rattle.engine.specs.Engine.{ending_of}
use Rattle.engine.proofs.told.ended.Goals as goal

pub returns : goal.returns
unfolding ending_of
returns c = rw (c.dc_verdict.ensures, c.verdict.ensures)
