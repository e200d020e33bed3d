-- `functions::sines::sin_large` meets its contract. Assumes nothing.
use Rattle.std.proofs.Common.{◌≡◌, ℕ, ◌/◌, ◌%◌, ◌^◌, ◌<◌, ◌≤◌, Bool, cond, eqb, sym, ap, ◌∙◌, refl, subst, lt_of_le_of_lt, mul-lt-mul_of_pos_right, arith, lit<, lit≤}
use lib.Ieee.{Float, binary64, of_bits, neg, unlike}
use lib.Ieee.Positive.{num, den, den_pos}
use Rattle.num.specs.Floats.{sign}
use Rattle.functions.specs.Reduction.{below_of, k_of, f_top}
use Rattle.functions.specs.Words.{packed}
use Rattle.functions.specs.Sin.{quarter, wave_word, wave_side, sin_large}
use Rattle.functions.specs.Laws.Packed.{room}
use Rattle.functions.proofs.Laws.SinLaw.{word_most}
use Rattle.functions.proofs.sines.sin_large.Goals as goal

-- every word packs
most : (k f : ℕ) → f < 2 ^ 64 → wave_word k f ≤ 2 ^ 62
unfolding wave_word
most k f h = word_most f h (eqb (k % 2) 0)

-- the answer, from what the calls answer
answer : (x y : Float) (k f p : ℕ) (u n t s : Bool) → k ≡ k_of quarter x → f ≡ f_top quarter x / den x → u ≡ below_of quarter (num x) (den x) → n ≡ sign x → t ≡ wave_side k u → s ≡ unlike n t → p ≡ wave_word k f
    → y ≡ cond s (neg (of_bits binary64 (packed 1023 p))) (of_bits binary64 (packed 1023 p)) → y ≡ sin_large x
unfolding sin_large
answer x y k f p u n t s ek ef eu en et es ep ey =
    let K = k_of quarter x in
    let R = of_bits binary64 (packed 1023 (wave_word K (f_top quarter x / den x))) in
    ey
    ∙ ap (λ (a : ℕ). cond s (neg (of_bits binary64 (packed 1023 a))) (of_bits binary64 (packed 1023 a))) (ep ∙ ap (λ (a : ℕ). wave_word a f) ek ∙ ap (λ (a : ℕ). wave_word K a) ef)
    ∙ ap (λ (b : Bool). cond b (neg R) R) (es ∙ ap (λ (b : Bool). unlike b t) en ∙ ap (λ (b : Bool). unlike (sign x) b) (et ∙ ap (λ (a : ℕ). wave_side a u) ek ∙ ap (λ (b : Bool). wave_side K b) eu))

pub reduction-p-requires : goal.reduction-p-requires
reduction-p-requires c = (lit≤ tt, lit< tt, c.requires.number, lt_of_le_of_lt c.requires.most (mul-lt-mul_of_pos_right (lit< tt) (den_pos c.args.x)))

pub negative-requires : goal.negative-requires
negative-requires c = c.requires.number

pub signed-requires : goal.signed-requires
signed-requires c =
    let r = c.reduction-p.result in
    let f : r.f < 2 ^ 64 = omega arith in
    room 1023 c.wave_word.result (lit≤ tt) (lit≤ tt) (subst (λ (n : ℕ). n < 2 ^ 64) (sym c.wave_word.ensures) (lt_of_le_of_lt (most r.k r.f f) (lit< tt)))

pub returns : goal.returns
returns c =
    let r = c.reduction-p in
    answer c.args.x c.signed.result r.result.k r.result.f c.wave_word.result r.result.under c.negative.result
    c.wave_side.result (unlike c.negative.result c.wave_side.result) r.ensures.0 r.ensures.1 r.ensures.2 c.negative.ensures
    c.wave_side.ensures refl c.wave_word.ensures c.signed.ensures
