-- `sound::refusals::refusal` meets its contract.
use mathlib.Core.Path.{sym, ◌∙◌}
use borrow.Author.Tests.{eq-eqb, ne_eqb}
use Rattle.spreads.specs.Laws.Refusals.{call_fine}
use Rattle.sound.specs.Refusals.{sound_refusal}
use Rattle.sound.proofs.refusals.refusal.Goals as goal

pub returns-then-k-ne0 : goal.returns-then-k-ne0
unfolding sound_refusal
returns-then-k-ne0 c = rw (← c.refusal-k.ensures, ne_eqb _ _ c.if-k-ne0.true)

pub short_more-requires : goal.short_more-requires
short_more-requires c = (call_fine _ _ (sym c.refusal-k.ensures ∙ c.if-k-ne0.false)).one.small

pub returns-then-short_more : goal.returns-then-short_more
unfolding sound_refusal
returns-then-short_more c = rw (← c.refusal-k.ensures, eq-eqb _ _ c.if-k-ne0.false, sym c.short_more.ensures ∙ c.if-short_more.true)

pub returns : goal.returns
unfolding sound_refusal
returns c = rw (← c.refusal-k.ensures, eq-eqb _ _ c.if-k-ne0.false, sym c.short_more.ensures ∙ c.if-short_more.false)
