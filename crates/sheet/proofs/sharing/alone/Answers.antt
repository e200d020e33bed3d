-- `sheet::sharing::alone` meets its contract. Assumes nothing.
use Rattle.std.proofs.Common.{◌∙◌, ap, not, refl, sym, arith, rules, tests}
use Rattle.std.proofs.lemmas.Iterator.{YieldsList-from_range}
use Rattle.std.proofs.lemmas.Iterator.Search.{any_from_yields_List}
use Rattle.sheet.specs.Record.{record_at}
use Rattle.sheet.specs.Sharing.{shares}
use Rattle.sheet.specs.Laws.Sharing.{sourceless}
use Rattle.sheet.proofs.Below.{any_shares}
use Rattle.sheet.proofs.sharing.alone.Goals as goal

pub returns-then-not-has_source : goal.returns-then-not-has_source
returns-then-not-has_source c =
    let h = sym c.has_source.ensures ∙ c.if-not-has_source.true in
    rw c.if-not-has_source.true (sym (sourceless c.args.sheet.now c.args.i _ (rw c.record_at-own.ensures at h)))

pub returns-else-not-has_source : goal.returns-else-not-has_source
returns-else-not-has_source c =
    let s = c.args.sheet.now in
    let i = c.args.i in
    ap not (any_from_yields_List (λ k. shares (record_at s k) (record_at s i)) _ _ _ c.any.ensures.ran (YieldsList-from_range 0 i i refl (omega arith)) (λ x b q k. search (rules, tests)))
    ∙ any_shares s i (record_at s i)
