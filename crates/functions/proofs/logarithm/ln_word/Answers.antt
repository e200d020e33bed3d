-- `functions::logarithm::ln_word` meets its contract. Assumes nothing.
use Rattle.std.proofs.Common.{rules, ℕ, ◌*◌, ◌/◌, ◌^◌, ◌≤◌, sym, ap, ◌∙◌, subst}
use Rattle.functions.specs.Words.{horner}
use Rattle.functions.specs.Ln.{ln_words, ln_word}
use Rattle.functions.proofs.Laws.LnLaw.{square_small}
use Rattle.functions.proofs.logarithm.ln_word.Goals as goal

pub horner-requires : goal.horner-requires
horner-requires c = (search rules, (subst (λ (n : ℕ). n ≤ 2 ^ 62) (sym c.upper.ensures) (square_small c.args.f c.requires), search rules))

pub returns : goal.returns
unfolding ln_word
returns c = c.upper-2.ensures ∙ ap (λ (n : ℕ). c.args.f * n / 2 ^ 64) (c.horner.ensures ∙ ap (λ (n : ℕ). horner ln_words n) c.upper.ensures)
