use Rattle.std.proofs.Common.{◌≡◌, ◌^◌}
use Rattle.functions.specs.Words.{falling}
use Rattle.functions.proofs.Back.{back, taken, FallsTo}
use Rattle.functions.proofs.word.falling.Given as goal

abbrev pub invariant-loop-c : goal.invariant-loop-c
invariant-loop-c g l = (back (taken l.y) l.c-iterator.iter.rest.now l.a ≡ falling l.words l.y) × FallsTo (2 ^ 62) l.c-iterator.iter.rest.now l.a
