-- `functions::logarithm::ln_float` meets its contract. Assumes nothing.
use Rattle.std.proofs.Common.{◌≡◌, ℕ, ◌+◌, ◌-◌, ◌*◌, ◌/◌, ◌^◌, ◌<◌, ◌≤◌, Bool, true, false, cond, ltb, sym, ap, ◌∙◌, subst, arith, lit≤, w64, Fits}
use lib.Ieee.{Float, binary64, neg, of_bits}
use Rattle.functions.specs.Words.{packed}
use Rattle.functions.specs.Exp.{ell}
use Rattle.functions.specs.Ln.{unit_of, ln_size}
use Rattle.functions.specs.Laws.Packed.{room}
use Rattle.functions.proofs.Laws.LnLaw.{size_lt, unit_taken}
use Rattle.functions.proofs.logarithm.ln_float.Goals as goal

range : (k : ℕ) → (3 ≤ unit_of k) × (unit_of k ≤ 32)
range k = go (ltb k 12)
  where
    go : (b : Bool) → (3 ≤ cond b 4 10) × (cond b 4 10 ≤ 32)
    go true = (lit≤ tt, lit≤ tt)
    go false = (lit≤ tt, lit≤ tt)

sum_lt : (k w : ℕ) → k ≤ 1075 → w ≤ 2 ^ 60 + 1 → k * ell / 2 ^ unit_of k + w / 2 ^ (unit_of k - 3) < 2 ^ 64
unfolding ln_size
sum_lt k w p q = size_lt k w true p q

is-size : (c : goal.After-ln_size) → c.ln_size.result ≡ ln_size (unit_of c.args.k) c.args.k c.args.w c.args.same
is-size c = c.ln_size.ensures ∙ ap (λ (t : ℕ). ln_size t c.args.k c.args.w c.args.same) c.unit_of-t.ensures

pub overflow_add-t : goal.overflow_add-t
overflow_add-t c = go c.unit_of-t.result (subst (λ (t : ℕ). t ≤ 32) (sym c.unit_of-t.ensures) (range c.args.k).1)
  where
    go : (t : ℕ) → t ≤ 32 → Fits w64 (1021 + t)
    go t h = omega arith

pub ln_size-requires : goal.ln_size-requires
ln_size-requires c =
    let k = c.args.k in
    let w = c.args.w in
    subst (λ (t : ℕ). (3 ≤ t) × (t ≤ 32) × (k ≤ 1075) × (k * ell / 2 ^ t + w / 2 ^ (t - 3) < 2 ^ 64) × (c.args.same ≡ false → w / 2 ^ (t - 3) ≤ k * ell / 2 ^ t)) (sym c.unit_of-t.ensures)
    ((range k).0, (range k).1, c.requires.0, sum_lt k w c.requires.0 c.requires.1, λ e. unit_taken k w c.requires.1 (c.requires.2 e))

pub signed-requires : goal.signed-requires
signed-requires c =
    let t = c.unit_of-t.result in
    let h : t ≤ 32 = subst (λ (n : ℕ). n ≤ 32) (sym c.unit_of-t.ensures) (range c.args.k).1 in
    room (1021 + t) c.ln_size.result (omega arith) (omega arith) (subst (λ (n : ℕ). n < 2 ^ 64) (sym (is-size c)) (size_lt c.args.k c.args.w c.args.same c.requires.0 c.requires.1))

pub returns : goal.returns
returns c =
    let k = c.args.k in
    c.signed.ensures
    ∙ ap (λ (y : Float). cond c.args.minus (neg y) y) (ap (λ (t : ℕ). of_bits binary64 (packed (1021 + t) c.ln_size.result)) c.unit_of-t.ensures ∙ ap (λ (p : ℕ). of_bits binary64 (packed (1021 + unit_of k) p)) (is-size c.before))
