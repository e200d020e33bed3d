-- `functions::exponential::exp_near` meets its contract. Assumes nothing.
use Rattle.std.proofs.Common.{◌≡◌, ℕ, ◌+◌, ◌-◌, ◌*◌, ◌^◌, ◌<◌, ◌≤◌, Bool, true, false, cond, not, sym, refl, ap, ◌∙◌, subst, le_trans, mul-le-mul_right, arith, lit<, lit≤, w64, Fits}
use lib.Ieee.{Float, binary64, of_bits, unlike}
use lib.Ieee.Positive.{num, den, den_pos}
use Rattle.num.specs.Floats.{sign}
use Rattle.functions.specs.Reduction.{nearest_of, below_of}
use Rattle.functions.specs.Words.{packed, Room}
use Rattle.functions.specs.Exp.{ell, fixed_exp, exp_size, exp_of, ExpRange}
use Rattle.functions.proofs.Laws.ExpLaw.{is_finite, up_to, down_to, in_range, k_up, k_down, f_small, sum_room}
use Rattle.functions.proofs.exponential.exp_near.Goals as goal

-- a size of at most 709
size_lt : (x : Float) → ExpRange x → num x < 2 ^ 21 * den x
size_lt x r = go (num x) (den x) (den_pos x) (either (sign x) refl)
  where
    either : (t : Bool) → sign x ≡ t → num x ≤ 709 * den x
    either false e = up_to x r e
    either true e = le_trans (down_to x r e) (mul-le-mul_right (den x) (lit≤ {m = 708} {n = 709} tt))

    go : (a b : ℕ) → 0 < b → a ≤ 709 * b → a < 2 ^ 21 * b
    go a b p q = omega arith

k-fits : (k : ℕ) → k ≤ 1023 → Fits w64 (1023 + k)
k-fits k h = omega arith

module _ (c : goal.After-reduction-r) where
  abbrev x : Float
  x = c.args.x

  abbrev d : ℕ
  d = den c.args.x

  word : c.reduction-r.result.f ≤ 6393154322601327830
  word = subst (λ (a : ℕ). a ≤ 6393154322601327830) (sym c.reduction-r.ensures.1) (f_small (num x) d (den_pos x))

  above : sign x ≡ false → c.reduction-r.result.k ≤ 1023
  above h = subst (λ (a : ℕ). a ≤ 1023) (sym c.reduction-r.ensures.0) (k_up (num x) d (den_pos x) (up_to x c.requires h))

  below : sign x ≡ true → c.reduction-r.result.k ≤ 1021
  below h = subst (λ (a : ℕ). a ≤ 1021) (sym c.reduction-r.ensures.0) (k_down (num x) d (den_pos x) (down_to x c.requires h))

  -- the sum has room at every exponent
  has_room : (t : Bool) (b p : ℕ) → 2 ≤ b → b ≤ 2046 → p ≡ fixed_exp t c.reduction-r.result.f → Room b p
  has_room t b p l h e = subst (λ (a : ℕ). Room b a) (sym (e ∙ ap (λ (a : ℕ). fixed_exp t a) c.reduction-r.ensures.1)) (sum_room (num x) d (den_pos x) t b l h)

  -- the answer, from what the calls answer
  answer : (s t : Bool) (b p : ℕ) → sign x ≡ s → t ≡ unlike s c.reduction-r.result.under → b ≡ cond s (1023 - c.reduction-r.result.k) (1023 + c.reduction-r.result.k) → p ≡ fixed_exp t c.reduction-r.result.f → of_bits binary64 (packed b p) ≡ exp_of x
  unfolding exp_size
  answer s t b p e f g h =
      let n = num x in
      let k = nearest_of ell n d in
      ap (λ (a : ℕ). of_bits binary64 (packed a p)) (g ∙ ap (λ (a : ℕ). cond s (1023 - a) (1023 + a)) c.reduction-r.ensures.0)
      ∙ ap (λ (a : ℕ). of_bits binary64 (packed (cond s (1023 - k) (1023 + k)) a))
      (h ∙ ap (λ (u : Bool). fixed_exp u c.reduction-r.result.f) (f ∙ ap (λ (u : Bool). unlike s u) c.reduction-r.ensures.2) ∙ ap (λ (a : ℕ). fixed_exp (unlike s (below_of ell n d)) a) c.reduction-r.ensures.1)
      ∙ sym (in_range x c.requires ∙ ap (λ (u : Bool). exp_size u n d) e)

turned : (u : Bool) → not u ≡ unlike true u
turned true = refl
turned false = refl

same : (u : Bool) → u ≡ unlike false u
same true = refl
same false = refl

pub reduction-r-requires : goal.reduction-r-requires
reduction-r-requires c = (lit≤ tt, lit< tt, is_finite c.args.x c.requires, size_lt c.args.x c.requires)

pub negative-requires : goal.negative-requires
negative-requires c = is_finite c.args.x c.requires

pub overflow_sub-r : goal.overflow_sub-r
overflow_sub-r c = le_trans (below c.before.before.before (sym c.negative.ensures ∙ c.if-negative.true)) (lit≤ tt)

pub fixed_exp-requires : goal.fixed_exp-requires
fixed_exp-requires c = word c.before.before.before.before

pub nearest-requires : goal.nearest-requires
nearest-requires c =
    let at = c.before.before.before.before.before in
    let k = below at (sym c.negative.ensures ∙ c.if-negative.true) in
    has_room at (not at.reduction-r.result.under) (1023 - at.reduction-r.result.k) c.fixed_exp.result (least at.reduction-r.result.k k) (most at.reduction-r.result.k) c.fixed_exp.ensures
  where
    least : (k : ℕ) → k ≤ 1021 → 2 ≤ 1023 - k
    least k h = omega arith

    most : (k : ℕ) → 1023 - k ≤ 2046
    most k = omega arith

pub overflow_add-r : goal.overflow_add-r
overflow_add-r c = let at = c.before.before.before in k-fits at.reduction-r.result.k (above at (sym c.negative.ensures ∙ c.if-negative.false))

pub fixed_exp-requires-else-negative : goal.fixed_exp-requires-else-negative
fixed_exp-requires-else-negative c = word c.before.before.before

pub nearest-requires-else-negative : goal.nearest-requires-else-negative
nearest-requires-else-negative c =
    let at = c.before.before.before.before in
    let k = above at (sym c.negative.ensures ∙ c.if-negative.false) in
    has_room at at.reduction-r.result.under (1023 + at.reduction-r.result.k) c.fixed_exp-else-negative.result (least at.reduction-r.result.k) (most at.reduction-r.result.k k) c.fixed_exp-else-negative.ensures
  where
    least : (k : ℕ) → 2 ≤ 1023 + k
    least k = omega arith

    most : (k : ℕ) → k ≤ 1023 → 1023 + k ≤ 2046
    most k h = omega arith

pub returns-then-negative : goal.returns-then-negative
returns-then-negative c =
    let at = c.before.before.before.before.before.before in
    c.nearest.ensures
    ∙ answer at true (not at.reduction-r.result.under) (1023 - at.reduction-r.result.k) c.fixed_exp.result (sym c.negative.ensures ∙ c.if-negative.true) (turned at.reduction-r.result.under) refl c.fixed_exp.ensures

pub returns-else-negative : goal.returns-else-negative
returns-else-negative c =
    let at = c.before.before.before.before.before in
    c.nearest-else-negative.ensures
    ∙ answer at false at.reduction-r.result.under (1023 + at.reduction-r.result.k) c.fixed_exp-else-negative.result (sym c.negative.ensures ∙ c.if-negative.false) (same at.reduction-r.result.under) refl c.fixed_exp-else-negative.ensures
