-- `functions::logarithm::minus_of` meets its contract. Assumes nothing.
use Rattle.std.proofs.Common.{◌≡◌, ℕ, Bool, cond, ltb, sym, ap, arith, eq-eqb, ne_eqb}
use Rattle.functions.specs.Fraction.{apart}
use Rattle.functions.proofs.logarithm.minus_of.Goals as goal

zero : (p : ℕ) → apart p 1075 ≡ 0 → p ≡ 1075
zero p e = omega arith

pub returns-then-p-eq1075 : goal.returns-then-p-eq1075
returns-then-p-eq1075 c = sym (ap (λ (b : Bool). cond b c.args.h (ltb c.args.p 1075)) (eq-eqb (apart c.args.p 1075) 0 (omega arith)))

pub returns-else-p-eq1075 : goal.returns-else-p-eq1075
returns-else-p-eq1075 c = sym (ap (λ (b : Bool). cond b c.args.h (ltb c.args.p 1075)) (ne_eqb (apart c.args.p 1075) 0 (λ e. c.if-p-eq1075.false (zero c.args.p e))))
