-- `loops::copy` meets its contract. Assumes nothing.
use Prim.Native.Nat.{min}
use mathlib.Core.Path.{◌≡◌, refl, ◌∙◌}
use native.Mathlib.Omega.{arith}
use borrow.Author.Rules.{rules}
use lib.ListN.{length}
use lib.Ieee.{nan}
use Rattle.loops.specs.Loop.{copied}
use Rattle.loops.specs.Laws.Loop.{front_more}
use Rattle.loops.proofs.copy.Goals as goal

pub loop-i-init : goal.loop-i-init
loop-i-init c = (search rules, c.min-n.ensures, refl, refl)

pub loop-i-preserved : goal.loop-i-preserved
loop-i-preserved c =
    let l = c.loop-i in
    let a = c.args in
    (search rules, search rules, search rules, rw l.invariant.3 (front_more nan a.src.now a.dst.now l.i (omega arith) (omega arith)))

pub returns : goal.returns
unfolding copied
returns c =
    let l = c.loop-i in
    let a = c.args in
    let e : l.i ≡ min (length a.src.now) (length a.dst.now) = omega arith in
    l.invariant.3 ∙ rw e
