use Rattle.std.proofs.Common.{◌≤◌, length}
use Rattle.sheet_replay.proofs.replay.Given as goal

abbrev pub invariant-loop-k : goal.invariant-loop-k
invariant-loop-k g l = l.at ≤ length l.file
