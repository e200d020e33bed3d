-- `mean::leading::top` meets its contract.
use Rattle.std.proofs.Common.{◌≡◌, ℕ, ◌+◌, ◌-◌, ◌*◌, ◌^◌, ◌<◌, List, get_or, drop, ap, ◌∙◌, subst, inl, inr, arith, rules}
use Rattle.exact.specs.Limbs.{value}
use Rattle.exact.proofs.Order.{none_past}
use Rattle.mean.proofs.Turns.{value-drop}
use Rattle.mean.proofs.leading.top.Goals as goal

back : (h : ℕ) → 0 < h → h - 1 + 1 ≡ h
back h p = omega arith

-- a limb of 0 under limbs of 0
lower : (l : List ℕ) (h : ℕ) → 0 < h → get_or l (h - 1) 0 ≡ 0 → value (drop h l) ≡ 0 → value (drop (h - 1) l) ≡ 0
lower l h p x e = value-drop l (h - 1) ∙ (λ j. x j + 2 ^ 64 * (ap (λ (n : ℕ). value (drop n l)) (back h p) ∙ e) j)

pub loop-h-init : goal.loop-h-init
loop-h-init c = (search rules, search rules, none_past c.args.l.now 66 (omega arith))

pub returns-then-l-h-ne0 : goal.returns-then-l-h-ne0
returns-then-l-h-ne0 c =
    let l = c.loop-h in
    record { least = omega arith; most = omega arith; above = ap (λ (n : ℕ). value (drop n c.args.l.now)) (back l.h (omega arith)) ∙ l.invariant.2; some = inr (omega arith) }

pub loop-h-preserved : goal.loop-h-preserved
loop-h-preserved c = let l = c.loop-h in (omega arith, omega arith, lower _ l.h (omega arith) c.if-l-h-ne0.false l.invariant.2)

pub returns : goal.returns
returns c =
    let l = c.loop-h in
    let e : l.h ≡ 18 = omega arith in
    record { least = omega arith; most = omega arith; above = subst (λ (n : ℕ). value (drop n c.args.l.now) ≡ 0) e l.invariant.2; some = inl (omega arith) }
