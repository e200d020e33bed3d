use Rattle.std.proofs.Common.{◌≡◌, ◌^◌}
use Rattle.functions.specs.Words.{horner}
use Rattle.functions.proofs.Back.{back, added, FallsTo}
use Rattle.functions.proofs.word.horner.Given as goal

abbrev pub invariant-loop-c : goal.invariant-loop-c
invariant-loop-c g l = (back (added l.y) l.c-iterator.iter.rest.now l.a ≡ horner l.words l.y) × FallsTo (2 ^ 62) l.c-iterator.iter.rest.now 0
