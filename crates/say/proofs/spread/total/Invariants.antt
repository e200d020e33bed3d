use Rattle.std.proofs.Common.{◌≡◌, ◌%◌, ◌^◌}
use Rattle.tally.specs.Tally.{summed}
use Rattle.say.specs.Totals.{count_in}
use Rattle.say.proofs.spread.total.Given as goal

abbrev pub invariant-loop-k : goal.invariant-loop-k
invariant-loop-k l = l.sum ≡ summed (count_in l.counts) l.k % 2 ^ 64
