-- `sound::runs::run_jobs` meets its contract.
use Prim.Native.Nat.{ℕ, ◌+◌}
use mathlib.Core.Path.{◌≡◌, subst}
use mathlib.Core.List.{◌++◌}
use native.Mathlib.Omega.{arith}
use lib.ListN.{drop}
use Rattle.loops.specs.Each.{each}
use Rattle.loops.specs.Laws.Each.{row}
use Rattle.spreads.specs.Runs.{table_of, table_after, job_at}
use Rattle.spreads.specs.Spreads.{number_at}
use Rattle.sound.specs.Causes.{with_causes}
use Rattle.sound.proofs.Turn.{begun, turned}
use Rattle.sound.proofs.runs.run_jobs.Goals as goal

pub loop-job-init : goal.loop-job-init
loop-job-init c = begun _ _ _ _ _ _ _ _ _ _ _ _ _ _ _ _ _ c.requires.2

pub run_job-l-requires : goal.run_job-l-requires
run_job-l-requires c =
    let l = c.loop-job in
    let a = c.args in
    let r = c.requires.0 in
    let t = c.loop-job-test.true in (
      r.small,
      omega (arith, row l.job a.jobs a.bytes t, r.whole),
      omega (arith, row l.job a.jobs (a.nodes + a.sources) t, r.vector-room, l.invariant.vector-length),
      l.invariant.sized,
    )

pub offset_bounds-numbers-job : goal.offset_bounds-numbers-job
offset_bounds-numbers-job c = omega (arith, c.loop-job-test.true, c.requires.0.few)

pub bounds-numbers-job : goal.bounds-numbers-job
bounds-numbers-job c = omega (arith, c.loop-job-test.true, c.requires.1, c.loop-job.invariant.number-length)

pub offset_bounds-causes-job : goal.offset_bounds-causes-job
offset_bounds-causes-job c = omega (arith, c.loop-job-test.true, c.requires.0.few)

pub bounds-causes-job : goal.bounds-causes-job
bounds-causes-job c = omega (arith, c.loop-job-test.true, c.requires.0.number-room, c.loop-job.invariant.cause-length)

pub offset_bounds-places-job : goal.offset_bounds-places-job
offset_bounds-places-job c = omega (arith, c.loop-job-test.true, c.requires.0.few)

pub bounds-places-job : goal.bounds-places-job
bounds-places-job c = omega (arith, c.loop-job-test.true, c.requires.0.place-room, c.loop-job.invariant.place-length)

pub offset_bounds-passes-job : goal.offset_bounds-passes-job
offset_bounds-passes-job c = omega (arith, c.loop-job-test.true, c.requires.0.few)

pub bounds-passes-job : goal.bounds-passes-job
bounds-passes-job c = omega (arith, c.loop-job-test.true, c.requires.0.pass-room, c.loop-job.invariant.pass-length)

pub loop-job-preserved : goal.loop-job-preserved
loop-job-preserved c =
    let l = c.loop-job in
    let k = c.run_job-l in
    turned _ _ _ _ _ _ _ _ _ _ _ _ _ _ _ _ _ _ _ _ _ l.job l.vectors _ l.numbers l.causes l.places l.passes _ l.invariant c.loop-job-test.true c.requires.0 c.requires.1
    k.auto.base k.auto.system k.auto.elimination k.auto.memory k.auto.vectors k.ensures

pub returns : goal.returns
returns c =
    let l = c.loop-job in
    let a = c.args in
    let e : l.job ≡ a.jobs = omega (arith, l.invariant.below, c.loop-job-test.false) in
    let job = job_at a.o a.nodes a.sources a.bytes a.sheets.now a.points.now in
    record {
      table = subst (λ (i : ℕ). table_of l.vectors l.causes l.places l.passes ≡ table_after (with_causes a.tolerances.now (a.nodes + a.sources) job) (a.nodes + a.sources) i a.vectors.now a.causes.now a.places.now a.passes.now) e l.invariant.ran;
      own = subst (λ (i : ℕ). l.numbers ≡ each (number_at job) i ++ drop i a.numbers.now) e l.invariant.own;
    }
