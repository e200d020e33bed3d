-- `exact::at_most` meets its contract.
use Rattle.std.proofs.Common.{◌≡◌, ℕ, drop, sym, ◌∙◌, subst, arith, le-leb}
use Rattle.exact.specs.Limbs.{value}
use Rattle.exact.proofs.Order.{none_past, decided, same}
use Rattle.exact.proofs.at_most.Goals as goal

pub loop-i-init : goal.loop-i-init
loop-i-init c = none_past c.args.a.now c.max-i.result (omega arith) ∙ sym (none_past c.args.b.now c.max-i.result (omega arith))

pub returns-then-p-q : goal.returns-then-p-q
returns-then-p-q c =
    let l = c.loop-i in
    rw (c.limb-p.ensures, c.limb-q.ensures) (decided c.args.a.now c.args.b.now l.i (omega arith) l.invariant (λ j. (c.type_inv.a j).fits) (λ j. (c.type_inv.b j).fits) (λ e. c.if-p-q.true (c.limb-p.ensures ∙ e ∙ sym c.limb-q.ensures)))

pub loop-i-preserved : goal.loop-i-preserved
loop-i-preserved c =
    let l = c.loop-i in
    same c.args.a.now c.args.b.now l.i (omega arith) l.invariant (omega arith)

pub returns : goal.returns
returns c =
    let l = c.loop-i in
    let z : l.i ≡ 0 = omega arith in
    let e : value c.args.a.now ≡ value c.args.b.now = subst (λ (n : ℕ). value (drop n c.args.a.now) ≡ value (drop n c.args.b.now)) z l.invariant in
    sym (le-leb (value c.args.a.now) (value c.args.b.now) (omega arith))
