-- What the loop of `sound::runs::run_jobs` keeps true.
use lib.ListN.{length}
use Rattle.sound.proofs.Turn.{Turn}
use Rattle.sound.proofs.runs.run_jobs.Given as goal

abbrev pub invariant-loop-job : goal.invariant-loop-job
invariant-loop-job l = Turn l.tolerances l.o l.nodes l.sources l.bytes l.jobs l.sheets l.points l.initial.vectors l.initial.numbers l.initial.causes l.initial.places l.initial.passes (length l.base) (length l.system) (length l.elimination) (length l.memory) l.vectors l.numbers l.causes l.places l.passes l.job
