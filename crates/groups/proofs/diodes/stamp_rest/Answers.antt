-- `groups::diodes::stamp_rest` meets its contract: the invariant says what the records passed have made of the matrix, the memory and the verdict. Assumes nothing.
use borrow.Author.Rules.{rules}
use mathlib.Core.Path.{◌≡◌, refl, sym, ap, ◌∙◌}
use native.Mathlib.Omega.{arith}
use Prim.Native.Nat.{ℕ, ◌+◌, ◌-◌}
use Rattle.loops.specs.Laws.Loop.{more}
use Rattle.sheet.specs.Check.{records_of}
use Rattle.groups.specs.Diodes.{stamped_of, biased_at}
use Rattle.groups.specs.Listed.{rest_at}
use Rattle.groups.proofs.diodes.stamp_rest.Goals as goal

pub loop-i-init : goal.loop-i-init
loop-i-init c = (omega arith, omega arith, refl, refl, refl)

pub loop-i-preserved : goal.loop-i-preserved
loop-i-preserved c =
    let l = c.loop-i in
    let a = c.args in
    let u : 256 + (l.i - 256) ≡ l.i = omega arith in
    let v : l.i + 1 - 256 ≡ l.i - 256 + 1 = omega arith in
    let s = stamped_of l.code l.m l.memory in (
      search rules,
      search rules,
      search rules,
      search rules,
      rw v (c.diode_at-code.ensures ∙ (ap (λ (k : ℕ). biased_at a.o a.sheet.now a.n a.x.now k s) (sym u) ∙ more (rest_at a.o a.sheet.now a.n a.x.now) s _ (l.i - 256) l.invariant.4)),
    )

pub returns : goal.returns
returns c =
    let l = c.loop-i in
    let r = c.records-count.ensures in
    let e : l.i - 256 ≡ records_of c.args.sheet.now - 256 = omega arith in
    rw (← e) l.invariant.4
