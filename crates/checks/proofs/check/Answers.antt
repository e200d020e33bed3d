-- `checks::check` meets its contract: the sheet is asked where 1 to 5 do not refuse. Assumes nothing.
use Rattle.std.proofs.Common.{◌≡◌, sym, rules, Ok, MatchResult}
use Rattle.std.proofs.lemmas.Result.{MatchResult-weaker, err_from_is_err_and}
use Rattle.sheet.specs.Check.{faulty}
use Rattle.sheet.specs.Laws.Ends.{ends_refused, goes_on}
use Rattle.checks.specs.Checks.{checked_of}
use Rattle.checks.proofs.check.Goals as goal

pub returns-in_err-map_err : goal.returns-in_err-map_err
unfolding checked_of
returns-in_err-map_err c =
    let r = c.refusal.result in
    let p = err_from_is_err_and c.from_residual.result c.from_residual.ensures.1 in
    let m : MatchResult r (λ u. c.map_err.result ≡ Ok u) (λ k. c.map_err.result ≡ faulty k 0) = MatchResult-weaker r c.map_err.ensures.cases (λ u q. search rules) (λ k q. search rules) in
    rw (p.1, p.2, ← c.refusal.ensures) (sym (ends_refused 0 r _ m c.in_err-map_err.was))

pub returns : goal.returns
unfolding checked_of
returns c =
    let r = c.refusal.result in
    let m : MatchResult r (λ u. c.map_err.result ≡ Ok u) (λ k. c.map_err.result ≡ faulty k 0) = MatchResult-weaker r c.map_err.ensures.cases (λ u q. search rules) (λ k q. search rules) in
    let e : r ≡ Ok tt = goes_on 0 r (Ok tt) m c.in_ok-map_err.was in
    rw (← c.refusal.ensures, e) c.check_sheet.ensures
