-- `groups::diodes::stamp_diodes` meets its contract: the listed records, and then the rest. Assumes nothing.
use Prim.Native.Nat.{◌-◌}
use mathlib.Core.Path.{ap, ◌∙◌}
use Rattle.loops.specs.Loop.{turns}
use Rattle.sheet.specs.Check.{records_of}
use Rattle.groups.specs.Listed.{rest_at, listed_of}
use Rattle.groups.proofs.diodes.stamp_diodes.Goals as goal

pub returns : goal.returns
unfolding listed_of
returns c =
    let a = c.args in
    c.stamp_rest.ensures
    ∙ ap (turns (records_of a.sheet.now - 256) (rest_at a.o a.sheet.now a.n a.x.now)) c.stamp_listed-code.ensures
