-- `convergence::convergence_check` meets its contract: each place is a turn of the definition.
use Rattle.std.proofs.Common.{◌∙◌, lt-ltb, le-ltb}
use Rattle.loops.specs.Laws.Loop.{more, done}
use Rattle.convergence.specs.Convergence.{checked, convergence_of}
use Rattle.convergence.proofs.convergence_check.Goals as goal

pub returns-then-y-x : goal.returns-then-y-x
unfolding convergence_of
returns-then-y-x c = rw (lt-ltb _ _ c.if-y-x.true)

pub loop-i-preserved : goal.loop-i-preserved
loop-i-preserved c = c.place-r.ensures ∙ more _ _ _ c.loop-i.i c.loop-i.invariant

pub returns : goal.returns
unfolding convergence_of checked
returns c = rw (le-ltb _ _ c.if-y-x.false) (done _ _ _ c.loop-i.i _ c.loop-i.auto.i-end c.loop-i-test.false c.loop-i.invariant)
