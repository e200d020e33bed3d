-- `exact::keep_product` meets its contract.
use Rattle.std.proofs.Common.{sym, ◌∙◌}
use Rattle.std.proofs.lemmas.Result.{err_from_is_err_and}
use Rattle.exact.specs.Kept.{kept_of}
use Rattle.exact.proofs.Terms.{may_add, added_rows}
use Rattle.exact.proofs.keep_product.Goals as goal

pub returns-in_err-check : goal.returns-in_err-check
unfolding kept_of
returns-in_err-check c =
    let e = err_from_is_err_and c.from_residual.result c.from_residual.ensures.1 in
    rw (e.1, e.2, sym c.in_err-check.ensures)

pub add_term-requires : goal.add_term-requires
add_term-requires c =
    let a = may_add c.args.plus.now c.args.minus.now c.args.x c.args.y (sym c.check.ensures ∙ c.in_ok-check.was) in
    (a.first, a.second, a.plus, a.minus)

pub returns : goal.returns
returns c =
    added_rows c.args.plus.now c.args.minus.now _ _ c.args.x c.args.y (sym c.check.ensures ∙ c.in_ok-check.was) c.add_term.ensures (λ j. (c.type_inv.plus j).fits) (λ j. (c.type_inv.minus j).fits)
