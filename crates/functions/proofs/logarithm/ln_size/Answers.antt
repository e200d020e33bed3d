-- `functions::logarithm::ln_size` meets its contract. Assumes nothing.
use Rattle.std.proofs.Common.{◌≡◌, ℕ, ◌+◌, ◌-◌, ◌*◌, ◌/◌, ◌%◌, ◌^◌, ◌<◌, ◌≤◌, Bool, true, false, sym, ap, ◌∙◌, subst, le-add_right, lt_of_le_of_lt, mod-eq_of_lt, mul_assoc, sub-add_cancel, arith, pow_pos, pow-add, w64, Fits}
use native.Mathlib.Nat.{mul-add-div_right}
use Rattle.functions.specs.Exp.{ell}
use Rattle.functions.specs.Ln.{ln_size}
use Rattle.functions.proofs.logarithm.ln_size.Goals as goal

-- L by its halves
halves : (k t : ℕ) → t ≤ 32 → k * 0xB17217F7 * 2 ^ (32 - t) + k * 0xD1CF79AC / 2 ^ t ≡ k * ell / 2 ^ t
halves k t h =
    sym (mul-add-div_right (pow_pos t) (k * 0xB17217F7 * 2 ^ (32 - t)) (k * 0xD1CF79AC))
    ∙ ap (λ (n : ℕ). n / 2 ^ t) (ap (λ (n : ℕ). n + k * 0xD1CF79AC) (mul_assoc (k * 0xB17217F7) (2 ^ (32 - t)) (2 ^ t) ∙ ap (λ (n : ℕ). k * 0xB17217F7 * n) (sym (pow-add 2 (32 - t) t) ∙ ap (λ (n : ℕ). 2 ^ n) (sub-add_cancel h))) ∙ join k)
  where
    join : (k : ℕ) → k * 0xB17217F7 * 2 ^ 32 + k * 0xD1CF79AC ≡ k * ell
    join k = omega arith

module _ (c : goal.Start) where
  abbrev t : ℕ
  t = c.args.t

  abbrev k : ℕ
  k = c.args.k

  small : k * ell / 2 ^ t < 2 ^ 64
  small = lt_of_le_of_lt (le-add_right _ _) c.requires.3

  no_wrap : k * 0xB17217F7 * 2 ^ (32 - t) % 2 ^ 64 ≡ k * 0xB17217F7 * 2 ^ (32 - t)
  no_wrap = mod-eq_of_lt (lt_of_le_of_lt (le-add_right _ (k * 0xD1CF79AC / 2 ^ t)) (subst (λ (n : ℕ). n < 2 ^ 64) (sym (halves k t c.requires.1)) small))

  whole : k * 0xB17217F7 * 2 ^ (32 - t) % 2 ^ 64 + k * 0xD1CF79AC / 2 ^ t ≡ k * ell / 2 ^ t
  whole = ap (λ (n : ℕ). n + k * 0xD1CF79AC / 2 ^ t) no_wrap ∙ halves k t c.requires.1

word : (n : ℕ) → n < 2 ^ 64 → Fits w64 n
word n h = omega arith

added : (t k w : ℕ) (s : Bool) → s ≡ true → k * ell / 2 ^ t + w / 2 ^ (t - 3) ≡ ln_size t k w s
unfolding ln_size
added t k w s e = ap (λ (b : Bool). ln_size t k w b) (sym e)

taken : (t k w : ℕ) (s : Bool) → s ≡ false → k * ell / 2 ^ t - w / 2 ^ (t - 3) ≡ ln_size t k w s
unfolding ln_size
taken t k w s e = ap (λ (b : Bool). ln_size t k w b) (sym e)

pub overflow_add-l : goal.overflow_add-l
overflow_add-l c = subst (λ (n : ℕ). Fits w64 n) (sym (whole c)) (word _ (small c))

pub overflow_add-result : goal.overflow_add-result
overflow_add-result c = subst (λ (n : ℕ). Fits w64 (n + c.args.w / 2 ^ (t c.before - 3))) (sym (whole c.before)) (word _ c.requires.3)

pub overflow_sub-result-else-same-2 : goal.overflow_sub-result-else-same-2
overflow_sub-result-else-same-2 c = subst (λ (n : ℕ). c.args.w / 2 ^ (t c.before - 3) ≤ n) (sym (whole c.before)) (c.requires.4 c.if-same.false)

pub returns-then-same : goal.returns-then-same
returns-then-same c = let s = c.before in ap (λ (n : ℕ). n + s.args.w / 2 ^ (t s - 3)) (whole s) ∙ added (t s) (k s) s.args.w s.args.same c.if-same.true

pub returns-else-same : goal.returns-else-same
returns-else-same c = let s = c.before in ap (λ (n : ℕ). n - s.args.w / 2 ^ (t s - 3)) (whole s) ∙ taken (t s) (k s) s.args.w s.args.same c.if-same.false
