-- "Equal to running the jobs one by one with fresh diode memory": a DC call on this sheet, with any buffers that are long enough and zeros for memory, writes the same mark, and where it runs
-- the same vector and the same system. Clients cite same_mark, same_vector and same_system. Assumes nothing.
use Rattle.std.specs.Prelude.{ℕ, ◌+◌, ◌*◌, ◌/◌, ◌≡◌, List, [], ◌++◌, length, take, drop, Float}
use Rattle.std.proofs.Common.{sym, ap, ◌∙◌, append-nil, arith, drop_of_length-le, take_all, take_at}
use Rattle.std.proofs.lemmas.List.{length-replicate}
use Rattle.num.specs.Floats.{nought}
use Rattle.options.specs.declared.Options.{Options}
use Rattle.sheet.specs.Record.{record_bytes}
use Rattle.std.specs.declared.result.Result.TheVariants.{Ok, Err}
use Rattle.checks.specs.Checks.{sizes_refusal}
use Rattle.engine.specs.Work.{zeros}
use Rattle.engine.specs.Engine.{Call, sizes, checked_call, Result, ending_of, refused_of, last_of, run_of}
use Rattle.engine.specs.Laws.Promises.{rows_stand}
use Rattle.single.specs.Single.{mark_of, dc_call, fresh, job_call, single, job_sizes}
use Rattle.single.specs.Laws.Alone.{last, alone_ran, alone_refused}
use Rattle.engine.specs.Laws.Engine.{run_by_check}
use Rattle.engine.specs.Laws.Lengths.{last_held}
use Rattle.single.specs.Laws.Promises.{none_refused, check_only, job_check}

-- x with nothing behind it, and with anything
front_same : (x : List Float) (k : ℕ) (r : List Float) → length x ≡ k → take k (x ++ drop k r) ≡ x ++ drop k (zeros (length (zeros k)))
front_same x k r l =
    let f : drop k (zeros (length (zeros k))) ≡ [] = drop_of_length-le (zeros (length (zeros k))) {i = k} (rw (length-replicate (length (zeros k)) nought, length-replicate k nought) (omega arith)) in
    take_at x (drop k r) k l ∙ (sym (append-nil x) ∙ ap (λ (t : List Float). x ++ t) (sym f))

module _ (o : Options) (nodes sources : ℕ) (sheet points : List ℕ) (b s e v y : List Float) (room : sizes_refusal o (sizes (dc_call o nodes sources sheet points b s e v y)) ≡ 0)
    (blank : take (length sheet / record_bytes) y ≡ zeros (length sheet / record_bytes)) where
  -- the call, and the job's own
  abbrev called : Call
  called = dc_call o nodes sources sheet points b s e v y

  abbrev job : Call
  job = job_call o nodes sources sheet points

  same_last : last_of called ≡ last job
  same_last =
      let k = length sheet / record_bytes in
      let f : take k (zeros (length (zeros k))) ≡ zeros k = rw (length-replicate k nought) (take_all k (zeros k) (rw (length-replicate k nought) (omega arith))) in
      rw (blank, f)

  same_check : checked_call job ≡ checked_call called
  same_check =
      job_check o nodes sources sheet points
      ∙ (check_only o (job_sizes nodes sources (length sheet) (length points)) sheet (none_refused o (sizes called) room) ∙ sym (check_only o (sizes called) sheet room))

  pub same_mark : mark_of (run_of called).outcome ≡ (single o nodes sources sheet points).mark
  unfolding single mark_of ending_of refused_of
  same_mark =
      run_by_check called (λ (x : Result). mark_of x.outcome ≡ (single o nodes sources sheet points).mark)
      (λ q. rw (alone_ran job (same_check ∙ q), same_last))
      (λ f q. rw (alone_refused job f (same_check ∙ q)))

  pub same_vector : checked_call called ≡ Ok tt → take (nodes + sources) (run_of called).buffers.vector ≡ (single o nodes sources sheet points).vector
  unfolding single run_of
  same_vector q =
      rw (q, alone_ran job (same_check ∙ q), same_last)
      (front_same (last job).buffers.vector (nodes + sources) v (rows_stand (fresh job) (omega arith)).long)

  pub same_system : checked_call called ≡ Ok tt → take ((nodes + sources) * (nodes + sources + 1)) (run_of called).buffers.system ≡ (single o nodes sources sheet points).system
  unfolding single run_of
  same_system q =
      rw (q, alone_ran job (same_check ∙ q), same_last)
      (front_same (last job).buffers.system ((nodes + sources) * (nodes + sources + 1)) s (last_held (fresh job)).system)
