-- `models::vpwl::point_at` meets its contract. Assumes nothing.
use mathlib.Core.Path.{sym}
use native.Mathlib.Omega.{arith}
use Rattle.models.specs.Vpwl.{point_at}
use Rattle.models.proofs.Points.{past_point}
use Rattle.models.proofs.vpwl.point_at.Goals as goal

pub returns-then-whole-first : goal.returns-then-whole-first
returns-then-whole-first c = sym (past_point c.args.points.now _ (omega arith))

pub returns-then-whole-first-2 : goal.returns-then-whole-first-2
returns-then-whole-first-2 c = sym (past_point c.args.points.now _ (omega arith))

pub returns : goal.returns
unfolding point_at
returns c = rw (c.f64_at.ensures, c.f64_at-2.ensures)
