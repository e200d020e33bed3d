-- `sheet::record_at` meets its contract: a whole record has its 40 bytes. Assumes nothing.
use Rattle.sheet.specs.Record.{record_at}
use Rattle.std.proofs.Common.{arith, ◌≡◌, ◌+◌, ◌*◌, ◌-◌}
use Rattle.sheet.proofs.record_at.Goals as goal

pub returns-then-i-sheet : goal.returns-then-i-sheet
unfolding record_at
returns-then-i-sheet c =
    let at = 40 * c.args.i in
    let w : at + 40 - at ≡ 40 = omega arith in
    rw w
