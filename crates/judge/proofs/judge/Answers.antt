-- `judge::judge` meets its contract.
use Rattle.std.proofs.Common.{sym}
use Rattle.std.proofs.lemmas.Result.{err_from_is_err_and}
use Rattle.judge.specs.Judge.{judge_of}
use Rattle.judge.specs.Laws.Judge.{no_refusal_only}
use Rattle.judge.proofs.judge.Goals as goal

pub returns-in_err-check : goal.returns-in_err-check
unfolding judge_of
returns-in_err-check c =
    let e = err_from_is_err_and c.from_residual.result c.from_residual.ensures.1 in
    rw (e.1, e.2, sym c.in_err-check.ensures)

pub judge_rows-requires : goal.judge_rows-requires
judge_rows-requires c = let a = c.args in no_refusal_only a.rows a.system.now a.vector.now a.tolerances.now (sym c.in_ok-check.ensures)

pub returns : goal.returns
unfolding judge_of
returns c = rw (sym c.in_ok-check.ensures, c.judge_rows.ensures)
