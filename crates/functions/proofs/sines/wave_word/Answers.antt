-- `functions::sines::wave_word` meets its contract. Assumes nothing.
use Rattle.std.proofs.Common.{ℕ, ◌*◌, ◌/◌, ◌%◌, ◌^◌, ap, ◌∙◌, eq-eqb, ne_eqb}
use Rattle.functions.specs.Words.{falling}
use Rattle.functions.specs.Sin.{sine_words, cosine_words, sine_word, cosine_word, wave_word}
use Rattle.functions.proofs.sines.wave_word.Goals as goal

pub returns-then-k-eq0 : goal.returns-then-k-eq0
unfolding wave_word sine_word
returns-then-k-eq0 c =
    let f = c.args.f in
    rw (eq-eqb (c.args.k % 2) 0 c.if-k-eq0.true)
    (c.upper.ensures ∙ ap (λ (n : ℕ). f * n / 2 ^ 64) (c.falling.ensures ∙ ap (λ (n : ℕ). falling sine_words n) c.upper-y.ensures))

pub returns-else-k-eq0 : goal.returns-else-k-eq0
unfolding wave_word cosine_word
returns-else-k-eq0 c = rw (ne_eqb (c.args.k % 2) 0 c.if-k-eq0.false) (c.falling-else-k-eq0.ensures ∙ ap (λ (n : ℕ). falling cosine_words n) c.upper-y.ensures)
