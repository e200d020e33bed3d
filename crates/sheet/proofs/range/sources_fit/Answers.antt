-- `sheet::range::sources_fit` meets its contract. Assumes nothing.
use Rattle.std.proofs.Common.{◌≡◌, ℕ, Bool, true, [], ◌∷◌, Option, Some, None, MatchOption, rules}
use Rattle.std.proofs.Math.Bool.{and-true}
use Rattle.sheet.specs.declared.SourceId.{SourceId}
use Rattle.sheet.specs.declared.Element.{Element}
use Rattle.sheet.specs.Range.{sources_fit, sources_of, source_below}
use Rattle.sheet.proofs.range.sources_fit.Goals as goal

weaker : {X : Type 0} (P : Type 0) (o : Option X) {Q R : X → Type 0} → MatchOption o P Q → ((x : X) → Q x → R x) → MatchOption o P R
weaker P None h f = h
weaker P (Some x) h f = f x h

asked : (n : ℕ) (e : Element) (o : Option SourceId) (b : Bool) → MatchOption o (sources_of e ≡ []) (λ s. sources_of e ≡ s ∷ []) → MatchOption o (b ≡ true) (λ s. b ≡ source_below n s) → b ≡ sources_fit n e
unfolding sources_fit
asked n e None b h k = rw h k
asked n e (Some s) b h k = rw (h, and-true) k

pub returns : goal.returns
returns c = asked c.args.sources c.args.e c.source.result c.is_none_or.result c.source.ensures (weaker _ c.source.result c.is_none_or.ensures (λ s q. search rules))
