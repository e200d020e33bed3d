-- `sheet::sharing::shares` meets its contract: each test is one of the definition's. Assumes nothing.
use Rattle.sheet.specs.Sharing.{shares}
use Rattle.sheet.proofs.sharing.shares.Goals as goal

pub returns : goal.returns
unfolding shares
returns c = rw (c.u16_at-2.ensures, c.u16_at.ensures, c.has_source-2.ensures, c.has_source.ensures, c.is_inductor-2.ensures, c.is_inductor.ensures)
