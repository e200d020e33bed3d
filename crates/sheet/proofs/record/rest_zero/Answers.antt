-- `sheet::record::rest_zero` meets its contract. Assumes nothing.
use Rattle.sheet.specs.Record.{rest_zero}
use Rattle.sheet.proofs.Zeros.{zero16, zero32, zero64}
use Rattle.sheet.proofs.record.rest_zero.Goals as goal

pub returns : goal.returns
unfolding rest_zero
returns c =
    let r = c.args.bytes.now in
    rw (c.u64_at-2.ensures, c.u64_at.ensures, c.u32_at-2.ensures, c.u16_at.ensures, c.u32_at.ensures, c.byte_at-one.ensures, zero64 r 32, zero64 r 24, zero32 r 12, zero16 r 10, zero32 r 6)
