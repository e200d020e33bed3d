-- `sheet::sharing::has_source` meets its contract. Assumes nothing.
use Rattle.std.proofs.Common.{◌∙◌, ap, ℕ, rules}
use Rattle.std.proofs.lemmas.Result.{MatchResult-weaker}
use Rattle.sheet.specs.Record.{uses_of}
use Rattle.sheet.proofs.Bytes.{source_of}
use Rattle.sheet.proofs.sharing.has_source.Goals as goal

pub returns : goal.returns
returns c = source_of _ c.try_from.result c.is_ok_and.result c.try_from.ensures (MatchResult-weaker c.try_from.result c.is_ok_and.ensures (λ k q. search rules) (λ e q. q)) ∙ ap (λ (n : ℕ). (uses_of n).source) c.byte_at.ensures
