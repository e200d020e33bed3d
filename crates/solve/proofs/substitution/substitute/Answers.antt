-- `solve::substitution::substitute` meets its contract. Assumes nothing.
use mathlib.Core.Path.{◌≡◌, refl, sym, ◌∙◌}
use Prim.Native.Nat.{◌+◌, ◌-◌, ◌<◌}
use native.Mathlib.Omega.{arith}
use denote.Floats.{passes}
use lib.ListN.{length, set, length-set}
use lib.Seq.{get_or-set_same}
use lib.Ieee.{nan}
use lib.Ieee.Bits.{is_true}
use lib.Ieee.Fits.{and_l, and_r}
use Rattle.num.specs.Floats.{nought}
use Rattle.loops.specs.Laws.Loop.{less}
use Rattle.solve.specs.Solve.{row_start, back_one}
use Rattle.solve.proofs.Unknowns.{any_vector, last_finite, more_finite}
use borrow.Author.Rules.{rules}
use Rattle.solve.proofs.substitution.substitute.Goals as goal

pub loop-i-init : goal.loop-i-init
loop-i-init c =
    let a = c.args in
    let y = set a.x.now 0 nought in
    let h : a.n - 1 < length y = simp length-set (omega arith) in
    let f = more_finite (a.n - 1) a.n y c.last_unknown-next.result h (rw c.last_unknown-next.ensures (last_finite (row_start a.n) a.n a.m.now)) (λ j p q. absurd (omega arith)) in
    (search rules, search rules, simp length-set (omega arith), simp length-set (omega arith), sym (get_or-set_same y (a.n - 1) _ nan h), refl, λ t. f)

pub unknown-next-requires : goal.unknown-next-requires
unknown-next-requires c =
    let l = c.loop-i in
    let u : l.i - 1 + 1 ≡ l.i = omega arith in
    (search rules, rw u l.invariant.4, search rules, search rules, search rules, rw u l.invariant.6)

pub loop-i-preserved : goal.loop-i-preserved
loop-i-preserved c =
    let l = c.loop-i in
    let a = c.args in
    let u : l.i - 1 - 1 + 1 ≡ l.i - 1 = omega arith in
    let w : l.i - 1 + 1 ≡ l.i = omega arith in
    let h : l.i - 1 < length l.x = omega arith in (
      search rules,
      search rules,
      simp length-set (omega arith),
      l.invariant.3,
      sym (get_or-set_same l.x (l.i - 1) _ nan h),
      rw c.unknown-next.ensures ((rw u at (less (back_one (row_start a.n) a.n a.m.now) l.x (l.i - 1) (omega arith))) ∙ l.invariant.5),
      λ t. more_finite (l.i - 1) a.n l.x _ h (sym c.finite-tame.ensures ∙ is_true _ (and_r l.tame c.finite-tame.result (passes _ t))) (rw w (l.invariant.6 (is_true _ (and_l l.tame c.finite-tame.result (passes _ t))))),
    )

pub returns : goal.returns
returns c =
    let l = c.loop-i in
    let a = c.args in
    let z : l.i - 1 ≡ 0 = omega arith in
    let v : a.n - 1 - 1 ≡ a.n - 2 = omega arith in
    (rw z at l.invariant.5) ∙ rw (v, c.last_unknown-next.ensures) (any_vector (row_start a.n) a.n a.m.now a.x.now (omega arith) (omega arith))
