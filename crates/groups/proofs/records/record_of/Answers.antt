-- `groups::records::record_of` meets its contract: by the test on the kind byte. Assumes nothing.
use Rattle.std.proofs.Common.{sym, ◌∙◌, ap, rules}
use Rattle.std.proofs.lemmas.Result.{MatchResult-weaker}
use Rattle.sheet.specs.Laws.Record.{decode_own}
use Rattle.groups.specs.Records.{record_in, told}
use Rattle.groups.specs.Laws.Passing.{apart, itself}
use Rattle.groups.proofs.Told.{is_told}
use Rattle.groups.proofs.records.record_of.Goals as goal

pub returns-then-kind_at-kind : goal.returns-then-kind_at-kind
unfolding record_in
returns-then-kind_at-kind c =
    let k = sym c.kind_at.ensures ∙ c.if-kind_at-kind.true in
    rw (itself _ _ k)
    (is_told c.element_as.result _ (MatchResult-weaker c.element_as.result c.map_err.ensures.cases (λ e q. search rules) (λ r q. search rules)) ∙ ap told (c.element_as.ensures ∙ decode_own _ _ (sym k)))

pub returns-else-kind_at-kind : goal.returns-else-kind_at-kind
unfolding record_in
returns-else-kind_at-kind c = rw (apart _ _ (λ e. c.if-kind_at-kind.false (c.kind_at.ensures ∙ e)))
