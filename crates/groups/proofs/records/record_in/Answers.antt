-- `groups::records::record_in` meets its contract: by the two tests on the kind byte. Assumes nothing.
use Rattle.std.proofs.Common.{lt-ltb, le-ltb, ◌∙◌, ap, rules}
use Rattle.std.proofs.lemmas.Result.{MatchResult-weaker}
use Rattle.groups.specs.Records.{record_in, told}
use Rattle.groups.proofs.Told.{is_told}
use Rattle.groups.proofs.records.record_in.Goals as goal
use Rattle.groups.proofs.records.record_in.Goals.{then-kind-low-via-then-kind-low, then-kind-low-via-else-kind-low+then-high-kind}

pub returns-then-kind-low : goal.returns-then-kind-low
unfolding record_in
returns-then-kind-low c =
    let k = c.kind_at-kind.ensures in
    elim c.then-kind-low.branch [
      | then-kind-low-via-then-kind-low w ↦ rw (lt-ltb _ _ (rw k at w.if-kind-low.true))
      | then-kind-low-via-else-kind-low+then-high-kind w ↦
          rw (le-ltb _ _ (rw k at w.if-kind-low.false), lt-ltb _ _ (rw k at w.if-high-kind.true))
    ]

pub returns : goal.returns
unfolding record_in
returns c =
    let k = c.kind_at-kind.ensures in
    rw (le-ltb _ _ (rw k at c.if-kind-low.false), le-ltb _ _ (rw k at c.if-high-kind.false))
    (is_told c.element_at.result _ (MatchResult-weaker c.element_at.result c.map_err.ensures.cases (λ e q. search rules) (λ r q. search rules)) ∙ ap told c.element_at.ensures)
