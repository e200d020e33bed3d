-- `functions::exponential::fixed_exp` meets its contract. Assumes nothing.
use Rattle.std.proofs.Common.{rules, ◌≡◌, ℕ, ◌+◌, ◌*◌, ◌/◌, ◌^◌, ◌<◌, ◌≤◌, false, sym, ap, ◌∙◌, subst, arith, w64, Fits}
use Rattle.functions.specs.Words.{horner, upper}
use Rattle.functions.specs.Exp.{even_words, odd_words, fixed_exp}
use Rattle.functions.proofs.Laws.ExpLaw.{square_small, fits_minus, sum_of_word}
use Rattle.functions.proofs.exponential.fixed_exp.Goals as goal

small : (n : ℕ) → n + 2 ^ 9 < 2 ^ 63 → Fits w64 n
small n h = omega arith

-- what the two sums are
even_is : (f y e : ℕ) → y ≡ upper f f → e ≡ horner even_words y → e ≡ horner even_words (upper f f)
even_is f y e square sum = sum ∙ ap (λ (n : ℕ). horner even_words n) square

odd_is : (f y s o : ℕ) → y ≡ upper f f → s ≡ horner odd_words y → o ≡ upper f s → o ≡ upper f (horner odd_words (upper f f))
odd_is f y s o square sum times = times ∙ ap (λ (n : ℕ). f * n / 2 ^ 64) (sum ∙ ap (λ (n : ℕ). horner odd_words n) square)

pub horner-e-requires : goal.horner-e-requires
horner-e-requires c = (search rules, (subst (λ (n : ℕ). n ≤ 2 ^ 62) (sym c.upper-y.ensures) (square_small c.args.f c.requires), search rules))

pub horner-requires : goal.horner-requires
horner-requires c = (search rules, (subst (λ (n : ℕ). n ≤ 2 ^ 62) (sym c.upper-y.ensures) (square_small c.args.f c.requires), search rules))

pub overflow_sub-result : goal.overflow_sub-result
overflow_sub-result c = rw (odd_is c.args.f _ _ _ c.upper-y.ensures c.horner.ensures c.upper-o.ensures, even_is c.args.f _ _ c.upper-y.ensures c.horner-e.ensures) (fits_minus c.args.f c.requires)

pub overflow_add-result : goal.overflow_add-result
unfolding fixed_exp
overflow_add-result c =
    let f = c.args.f in
    rw (odd_is c.args.f _ _ _ c.upper-y.ensures c.horner.ensures c.upper-o.ensures, even_is c.args.f _ _ c.upper-y.ensures c.horner-e.ensures) (small (fixed_exp false f) (sum_of_word f c.requires false).1)

pub returns-then-negative : goal.returns-then-negative
unfolding fixed_exp
returns-then-negative c = rw (odd_is c.args.f _ _ _ c.upper-y.ensures c.horner.ensures c.upper-o.ensures, even_is c.args.f _ _ c.upper-y.ensures c.horner-e.ensures, c.if-negative.true)

pub returns-else-negative : goal.returns-else-negative
unfolding fixed_exp
returns-else-negative c = rw (odd_is c.args.f _ _ _ c.upper-y.ensures c.horner.ensures c.upper-o.ensures, even_is c.args.f _ _ c.upper-y.ensures c.horner-e.ensures, c.if-negative.false)
