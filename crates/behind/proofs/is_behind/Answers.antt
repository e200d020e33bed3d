-- `behind::is_behind` meets its contract: a record of another kind is not behind. Assumes nothing.
use Rattle.std.proofs.Common.{sym, ◌∙◌, ne_eqb}
use Rattle.behind.specs.Laws.Quiet.{other_kind}
use Rattle.behind.proofs.is_behind.Goals as goal

pub returns-else-kind_at-number : goal.returns-else-kind_at-number
returns-else-kind_at-number c = ne_eqb _ _ c.if-kind_at-number.false ∙ sym (other_kind _ _ _ _ _ _ (λ e. c.if-kind_at-number.false (c.kind_at.ensures ∙ (e ∙ sym c.number.ensures))))
