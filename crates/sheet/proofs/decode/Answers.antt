-- `sheet::decode` meets its contract. Assumes nothing.
use Rattle.std.proofs.Common.{◌∙◌}
use Rattle.std.proofs.lemmas.Result.{err_from_is_err_and}
use Rattle.sheet.specs.Laws.Record.{decode_own}
use Rattle.sheet.proofs.Bytes.{refused}
use Rattle.sheet.proofs.decode.Goals as goal

pub returns-in_err-try_from : goal.returns-in_err-try_from
returns-in_err-try_from c =
    let p = err_from_is_err_and c.from_residual.result c.from_residual.ensures.1 in
    let e = c.in_err-try_from.ensures in
    rw (p.1, p.2, e.0) (refused c.args.bytes.now _ e.1 ∙ decode_own _ _ c.byte_at.ensures)

pub returns : goal.returns
returns c = c.decode_as.ensures ∙ decode_own _ _ (c.in_ok-try_from.ensures ∙ c.byte_at.ensures)
