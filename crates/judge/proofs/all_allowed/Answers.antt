-- `judge::all_allowed` meets its contract.
use borrow.Author.Rules.{rules}
use mathlib.Core.Path.{refl, sym, ◌∙◌}
use native.Mathlib.Omega.{arith}
use lib.Ieee.{nan}
use Rattle.judge.specs.Judge.{allowed}
use Rattle.judge.proofs.Every.{every_next, every_not, every_end}
use Rattle.judge.proofs.all_allowed.Goals as goal

pub loop-i-init : goal.loop-i-init
loop-i-init c = (search rules, refl)

pub returns-then-not-allowed : goal.returns-then-not-allowed
returns-then-not-allowed c =
    let l = c.loop-i in
    sym (every_not (allowed c.args.tolerance) nan c.args.s.now l.i (omega arith) (sym c.allowed.ensures ∙ c.if-not-allowed.true)) ∙ l.invariant.1

pub loop-i-preserved : goal.loop-i-preserved
loop-i-preserved c =
    let l = c.loop-i in
    (omega arith, sym (every_next (allowed c.args.tolerance) nan c.args.s.now l.i (omega arith) (sym c.allowed.ensures ∙ c.if-not-allowed.false)) ∙ l.invariant.1)

pub returns : goal.returns
returns c =
    let l = c.loop-i in
    sym (every_end (allowed c.args.tolerance) nan c.args.s.now l.i (omega arith)) ∙ l.invariant.1
