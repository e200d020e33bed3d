-- 26 does not come from DC: at time 0.0 no sine is refused. So a DC run ends with one of 0, 20, 21, 22 and 24, and so reads DC's own verdict in every run.
-- Clients cite dc_verdict and dc_run_verdict. Assumes nothing.
use Rattle.std.specs.Prelude.{◌≡◌, false}
use Rattle.steps.specs.Counters.{verdict_of, dc_verdict_of}
use Rattle.machine.proofs.Laws.NoSine.{DcVerdict, begins_free, dc_reads, dc_run_reads}
use Rattle.passes.specs.Laws.NoSine.{sine_free}
use Rattle.engine.specs.Work.{end_of}
use Rattle.engine.specs.Engine.{Call, circuit, last_of}

module _ (c : Call) where
  -- DC's verdict, in a transient too
  pub dc_verdict : DcVerdict (dc_verdict_of (last_of c).counters)
  unfolding end_of
  dc_verdict = dc_reads _ c.job (sine_free (circuit c)) _ _ (begins_free c.job.transient)

  -- the verdict of a DC run
  pub dc_run_verdict : c.job.transient ≡ false → DcVerdict (verdict_of (last_of c).counters)
  unfolding end_of
  dc_run_verdict h = dc_run_reads _ c.job (sine_free (circuit c)) _ _ (begins_free c.job.transient) h
