-- `judge::judge_rows` meets its contract.
use borrow.Author.Rules.{rules}
use mathlib.Core.Path.{sym, ◌∙◌}
use mathlib.Core.Bool.{true, and-eq-true_iff as both}
use native.Mathlib.Omega.{arith}
use lib.Ieee.{nan}
use lib.Ieee.Scale.{finite}
use denote.Floats.{passes}
use Rattle.num.specs.Lists.{«at»}
use Rattle.judge.specs.Judge.{allowed, holds}
use Rattle.judge.proofs.Every.{front_at}
use Rattle.judge.proofs.Places.{holding, failing, at_end_lem, at_start}
use Rattle.judge.proofs.judge_rows.Goals as goal

pub loop-i-init : goal.loop-i-init
loop-i-init c = (search rules, at_start _ _)

pub row_holds-requires : goal.row_holds-requires
row_holds-requires c =
    let l = c.loop-i in
    let g = c.requires in
    (g.rows, omega arith, passes _ ((both (finite («at» c.args.t.now l.i)) _).0 (front_at (allowed true) nan c.args.t.now c.args.n l.i g.no_less g.tolerances (omega arith))).0)

pub returns-then-not-row_holds : goal.returns-then-not-row_holds
returns-then-not-row_holds c =
    let l = c.loop-i in
    sym (failing (holds c.args.n c.args.m.now c.args.x.now c.args.t.now) c.args.n l.i (omega arith) (sym c.row_holds.ensures ∙ c.if-not-row_holds.true)) ∙ l.invariant.1

pub loop-i-preserved : goal.loop-i-preserved
loop-i-preserved c =
    let l = c.loop-i in
    (omega arith, sym (holding (holds c.args.n c.args.m.now c.args.x.now c.args.t.now) c.args.n l.i (omega arith) (sym c.row_holds.ensures ∙ c.if-not-row_holds.false)) ∙ l.invariant.1)

pub returns : goal.returns
returns c =
    let l = c.loop-i in
    sym (at_end_lem (holds c.args.n c.args.m.now c.args.x.now c.args.t.now) c.args.n l.i (omega arith)) ∙ l.invariant.1
