-- `functions::logarithm::ln_answer` meets its contract. Assumes nothing.
use Rattle.std.proofs.Common.{◌≡◌, ℕ, ◌+◌, ◌^◌, ◌<◌, ◌≤◌, Bool, true, false, cond, sym, ap, ◌∙◌, subst, arith}
use mathlib.Core.Bool.{beq}
use lib.Ieee.{Float, neg}
use Rattle.functions.specs.Fraction.{apart}
use Rattle.functions.specs.Ln.{ln_word, z_word, one_of, ln_float, minus_of, place_of, ln_answer, Digits}
use Rattle.functions.proofs.Laws.LnLaw.{z_small, word_small, k_small, k_some}
use Rattle.functions.proofs.logarithm.ln_answer.Goals as goal

range : (h : Bool) (q : ℕ) → Digits h q → (2 ^ 53 ≤ q + one_of h) × (q + one_of h < 2 ^ 54) × (1 ≤ q) × (1 ≤ one_of h)
range false q r = omega arith
range true q r = omega arith

-- z's word and the series', at q and h
z_is : (c : goal.After-z_word) → c.z_word.result ≡ z_word c.args.q (one_of c.args.h)
z_is c = c.z_word.ensures ∙ ap (λ (o : ℕ). z_word c.args.q o) c.one_of.ensures

module _ (c : goal.After-abs_diff) where
  abbrev start : goal.Start
  start = c.before.before.before.before.before.before

  abbrev h : Bool
  h = start.args.h

  abbrev q : ℕ
  q = start.args.q

  abbrev p : ℕ
  p = place_of start.args.c h

  place_is : c.place_of-p.result ≡ p
  place_is = c.place_of-p.ensures

  minus_is : c.minus_of-minus.result ≡ minus_of p h
  minus_is = c.minus_of-minus.ensures ∙ ap (λ (n : ℕ). minus_of n h) place_is

  word-is : c.ln_word-w.result ≡ ln_word (z_word q (one_of h))
  word-is = c.ln_word-w.ensures ∙ ap ln_word (z_is c.before.before)

  k-is : c.abs_diff.result ≡ apart p 1075
  k-is = c.abs_diff.ensures ∙ ap (λ (n : ℕ). apart n 1075) place_is

  like_is : beq c.minus_of-minus.result h ≡ beq (minus_of p h) h
  like_is = ap (λ (b : Bool). beq b h) minus_is

  float-requires : (c.abs_diff.result ≤ 1075) × (c.ln_word-w.result ≤ 2 ^ 60 + 1) × (beq c.minus_of-minus.result h ≡ false → 1 ≤ c.abs_diff.result)
  float-requires = (
    subst (λ (n : ℕ). n ≤ 1075) (sym k-is) (k_small start.args.c h start.requires.0),
    subst (λ (n : ℕ). n ≤ 2 ^ 60 + 1) (sym word-is) (word_small h q start.requires.1),
    λ e. subst (λ (n : ℕ). 1 ≤ n) (sym k-is) (k_some p h (sym like_is ∙ e)),
  )

-- the answer, from what the calls answer
answer : (c q k w : ℕ) (h s m : Bool) (r : Float) → k ≡ apart (place_of c h) 1075 → w ≡ ln_word (z_word q (one_of h)) → s ≡ beq (minus_of (place_of c h) h) h → m ≡ minus_of (place_of c h) h
    → r ≡ cond m (neg (ln_float k w s)) (ln_float k w s) → r ≡ ln_answer c q h
unfolding ln_answer
answer c q k w h s m r ek ew es em er =
    let K = apart (place_of c h) 1075 in
    let R = ln_float K (ln_word (z_word q (one_of h))) (beq (minus_of (place_of c h) h) h) in
    er
    ∙ ap (λ (z : Float). cond m (neg z) z) (ap (λ (n : ℕ). ln_float n w s) ek ∙ ap (λ (n : ℕ). ln_float K n s) ew ∙ ap (λ (b : Bool). ln_float K (ln_word (z_word q (one_of h))) b) es)
    ∙ ap (λ (b : Bool). cond b (neg R) R) em

pub place_of-p-requires : goal.place_of-p-requires
place_of-p-requires c = c.requires.0

pub z_word-requires : goal.z_word-requires
z_word-requires c =
    subst (λ (o : ℕ). (2 ^ 53 ≤ c.args.q + o) × (c.args.q + o < 2 ^ 54) × (1 ≤ c.args.q) × (1 ≤ o)) (sym c.one_of.ensures) (range c.args.h c.args.q c.requires.1)

pub ln_word-w-requires : goal.ln_word-w-requires
ln_word-w-requires c = subst (λ (n : ℕ). n ≤ 3689348814741910324) (sym (z_is c)) (z_small c.args.h c.args.q c.requires.1)

pub ln_float-requires : goal.ln_float-requires
ln_float-requires c = float-requires c

pub returns : goal.returns
returns c =
    let b = c.before in
    answer (start b).args.c (q b) b.abs_diff.result b.ln_word-w.result (h b) (beq b.minus_of-minus.result (h b)) b.minus_of-minus.result c.ln_float.result (k-is b) (word-is b) (like_is b) (minus_is b) c.ln_float.ensures
