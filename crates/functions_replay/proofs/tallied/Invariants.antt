use Rattle.std.proofs.Common.{◌-◌}
use Rattle.functions_replay.proofs.tallied.Given as goal

abbrev pub decreases-loop-i : goal.decreases-loop-i
decreases-loop-i l = l.n - l.i
