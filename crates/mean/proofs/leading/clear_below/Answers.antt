-- `mean::leading::clear_below` meets its contract.
use Rattle.std.proofs.Common.{◌≡◌, ℕ, ◌*◌, ◌%◌, ◌^◌, ◌<◌, eqb, sym, ◌∙◌, subst, mod-lt, one-mul, arith, lit<, pow_pos, shl_exact}
use Rattle.mean.proofs.Places.{clear_is}
use Rattle.mean.proofs.leading.clear_below.Goals as goal

power : (s : ℕ) → s < 64 → 1 * 2 ^ s % 2 ^ 64 ≡ 2 ^ s
power s h = shl_exact {a = 1} 1 s 64 (lit< tt) (omega arith) ∙ one-mul (2 ^ s)

pub nonzero_rem-result : goal.nonzero_rem-result
nonzero_rem-result c = subst (λ (n : ℕ). 0 < n) (sym (power _ (mod-lt c.args.p (lit< tt)))) (pow_pos _)

pub returns-then-blank : goal.returns-then-blank
returns-then-blank c =
    let e = rw (sym c.blank.ensures ∙ c.if-blank.true) at (clear_is c.args.l.now c.args.p (λ j. (c.type_inv.l j).fits)) in
    (λ j. eqb (c.limb.ensures j % power (c.args.p % 64) (mod-lt c.args.p (lit< tt)) j) 0) ∙ sym e

pub returns-else-blank : goal.returns-else-blank
returns-else-blank c = c.if-blank.false ∙ sym (rw (sym c.blank.ensures ∙ c.if-blank.false) at (clear_is c.args.l.now c.args.p (λ j. (c.type_inv.l j).fits)))
