use Rattle.std.proofs.Common.{◌-◌}
use Rattle.functions_replay.proofs.replay.Given as goal

abbrev pub decreases-loop-turn : goal.decreases-loop-turn
decreases-loop-turn g l = 16 - l.turn
