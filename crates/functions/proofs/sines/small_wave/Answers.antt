-- `functions::sines::small_wave` meets its contract. Assumes nothing.
use Rattle.std.proofs.Common.{◌≡◌, ℕ, ◌+◌, ◌-◌, ◌*◌, ◌/◌, ◌^◌, ◌<◌, Bool, cond, sym, refl, ap, ◌∙◌, mul-div_cancel, arith}
use lib.Ieee.{Float, binary64, neg, of_bits, size}
use Rattle.functions.specs.Words.{falling, upper, packed, size_of}
use Rattle.functions.specs.Sin.{sine_words, small_size}
use Rattle.functions.specs.Laws.Leading.{size_is, normal_leads}
use Rattle.functions.specs.Laws.Packed.{room}
use Rattle.functions.proofs.Quotients.{some, own_digits}
use Rattle.functions.proofs.sines.small_wave.Goals as goal

-- the definition, with the code's field and words
size-by : (n d x c f g y s p : ℕ) (m : Bool) (r : Float) → size (n * 2 ^ 1074 / d) ≡ c → c ≡ x + 52 → f ≡ n * 2 ^ 64 / d → g ≡ n * 2 ^ (1086 - x) / d → y ≡ upper f f → s ≡ falling sine_words y → p ≡ upper g s → r ≡ cond m (neg (of_bits binary64 (packed (x + 1) p))) (of_bits binary64 (packed (x + 1) p)) → r ≡ cond m (neg (small_size n d)) (small_size n d)
unfolding small_size
size-by n d x c f g y s p m r ec e ef eg ey es ep er =
    er
    ∙ ap (λ (z : Float). cond m (neg z) z)
    (ap (λ (a : ℕ). of_bits binary64 (packed (x + 1) a)) (ep ∙ ap (λ (a : ℕ). upper g a) (es ∙ ap (λ (a : ℕ). falling sine_words a) (ey ∙ ap (λ (a : ℕ). upper a a) ef)))
    ∙ ap (λ (a : ℕ). of_bits binary64 (packed (x + 1) (upper a (falling sine_words (upper (n * 2 ^ 64 / d) (n * 2 ^ 64 / d)))))) (eg ∙ ap (λ (a : ℕ). n * 2 ^ a / d) (places x))
    ∙ ap (λ (a : ℕ). of_bits binary64 (packed a (upper (n * 2 ^ (1138 - (x + 52)) / d) (falling sine_words (upper (n * 2 ^ 64 / d) (n * 2 ^ 64 / d)))))) (field x)
    ∙ ap (λ (a : ℕ). of_bits binary64 (packed (a - 51) (upper (n * 2 ^ (1138 - a) / d) (falling sine_words (upper (n * 2 ^ 64 / d) (n * 2 ^ 64 / d)))))) (sym (ec ∙ e)))
  where
    places : (a : ℕ) → 1086 - a ≡ 1138 - (a + 52)
    places a = omega arith

    field : (a : ℕ) → a + 1 ≡ a + 52 - 51
    field a = omega arith

pub signed-requires : goal.signed-requires
signed-requires c =
    let w : c.upper-p.result < 2 ^ 64 = omega arith in
    room (c.args.field + 1) c.upper-p.result (omega arith) (omega arith) w

pub returns : goal.returns
returns c = λ n d dp e.
    let x = c.args.field in
    let t = c.args.digits in
    let l = normal_leads x t (omega arith) (omega arith) c.requires.2 in
    let z : size (n * 2 ^ 1074 / d) ≡ x + 52 = ap size (ap (λ (a : ℕ). a / d) e ∙ mul-div_cancel (size_of x t) dp) ∙ size_is (size_of x t) (t + 2 ^ 52) (x + 52) l.same l.least l.most in
    size-by n d x (x + 52) _ _ c.upper.result c.falling.result c.upper-p.result c.args.minus c.signed.result z refl
    (some n d x t dp (omega arith) c.requires.1 c.requires.2 e) (own_digits n d x t dp (omega arith) (omega arith) e)
    c.upper.ensures c.falling.ensures c.upper-p.ensures c.signed.ensures
