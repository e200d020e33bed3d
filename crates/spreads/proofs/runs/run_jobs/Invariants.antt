-- What the loop of `spreads::runs::run_jobs` keeps true.
use lib.ListN.{length}
use Rattle.spreads.proofs.Turn.{Turn}
use Rattle.spreads.proofs.runs.run_jobs.Given as goal

abbrev pub invariant-loop-job : goal.invariant-loop-job
invariant-loop-job l = Turn l.o l.nodes l.sources l.bytes l.jobs l.sheets l.points l.initial.vectors l.initial.numbers l.initial.places l.initial.passes (length l.base) (length l.system) (length l.elimination) (length l.memory) l.vectors l.numbers l.places l.passes l.job
