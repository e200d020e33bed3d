-- What the loop of `convergence::convergence_check` keeps true.
use Rattle.std.proofs.Common.{◌≡◌}
use Rattle.loops.specs.Loop.{turns}
use Rattle.convergence.specs.Convergence.{place_at}
use Rattle.convergence.specs.declared.Convergence.TheVariants.{Yes}
use Rattle.convergence.proofs.convergence_check.Given as goal

abbrev pub invariant-loop-i : goal.invariant-loop-i
invariant-loop-i l = l.r ≡ turns l.i (place_at l.x l.y l.nodes l.o) Yes
