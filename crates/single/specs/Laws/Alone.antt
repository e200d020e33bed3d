-- A job by itself as its check decides: refused, or what the engine's run leaves. Clients cite marked_alone, alone_single and what is `pub` besides. Assumes nothing.
use Rattle.std.specs.Prelude.{ℕ, ◌+◌, ◌*◌, ◌/◌, ◌≡◌, List, ◌++◌, drop, Float}
use Rattle.std.proofs.Math.Path.{refl, sym, ap}
use Rattle.std.proofs.Common.{◌∙◌}
use Rattle.std.proofs.Math.ListN.{length, length-replicate}
use Rattle.num.specs.Floats.{nought}
use Rattle.loops.specs.Loop.{zeros_like}
use Rattle.numbers.specs.Refusals as Refusals
use Rattle.sheet.specs.declared.Fault.{Fault}
use Rattle.options.specs.declared.Options.{Options}
use Rattle.sheet.specs.Record.{record_bytes}
use Rattle.sheet.specs.Check.{Checked}
use Rattle.std.specs.declared.result.Result.TheVariants.{Ok, Err}
use Rattle.checks.specs.declared.Sizes.{Sizes}
use Rattle.checks.specs.Checks.{order, cells, checked_of}
use Rattle.numbers.specs.Verdicts as verdicts
use Rattle.steps.specs.Counters.{verdict_of}
use Rattle.machine.specs.State.{Buffers, State}
use Rattle.engine.specs.Work.{zeros, behind_in}
use Rattle.engine.specs.Laws.Engine.{run_by_check}
use Rattle.engine.specs.Engine.{Call, sizes, checked_call, Result, result_of, ending_of, refused_of, last_of, last_ending, laid, unless, run_of, Scratched}
use Rattle.single.specs.declared.Mark.{Mark}
use Rattle.single.specs.Single.{mark_as, mark_of, dc_call, cleared, Marked, marked_of, marked_run, Single, single_of, single_in, fresh, alone, job_call, single, job_sizes}

-- ---- any call

-- what stood in the base and in the elimination matrix does not count
any_scratch : (o : Options) (nodes sources : ℕ) (sheet points : List ℕ) (b b₁ s e e₁ v y : List Float) → length b₁ ≡ length b → length e₁ ≡ length e
    → single_in (run_of (dc_call o nodes sources sheet points b s e v y)) ≡ single_in (run_of (dc_call o nodes sources sheet points b₁ s e₁ v y))
unfolding run_of
any_scratch o nodes sources sheet points b b₁ s e e₁ v y h k = rw (h, k) (go (checked_call c))
  where
    c : Call
    c = dc_call o nodes sources sheet points b s e v y

    d : Call
    d = dc_call o nodes sources sheet points b₁ s e₁ v y

    go : (x : Checked)
        → single_in (unless x (result_of (last_ending c) (laid (sizes c) (last_of c).buffers c.lent)) (result_of (refused_of x) c.lent))
        ≡ single_in (unless x (result_of (last_ending d) (laid (sizes c) (last_of d).buffers d.lent)) (result_of (refused_of x) d.lent))
    go (Ok u) = refl
    go (Err f) = refl

-- ---- a call on zeros

module _ (c : Call) where
  -- zeros are as long as what they stand for
  pub fresh_sizes : sizes (fresh c) ≡ sizes c
  fresh_sizes = rw (length-replicate (length c.lent.base) nought, length-replicate (length c.lent.system) nought, length-replicate (length c.lent.vector) nought, length-replicate (length c.lent.memory) nought, length-replicate (length c.lent.rows) nought)

  pub fresh_check : checked_call (fresh c) ≡ checked_call c
  fresh_check = ap (λ (z : Sizes). checked_of c.job.options z c.sheet) fresh_sizes

  -- the state in which the run on zeros ends
  abbrev pub last : State
  last = last_of (fresh c)

  -- a job that runs, and one that is refused
  abbrev pub ran_single : Single
  ran_single =
      single_of (mark_as (verdicts.number_of (verdict_of last.counters)) 0 last.counters.passes (behind_in c.job.options c.sheet last.buffers)) (last.buffers.vector ++ drop (order (sizes c)) (zeros_like c.lent.vector))
      (last.buffers.system ++ drop (cells (sizes c)) (zeros_like c.lent.system))

  abbrev pub refused_single : ℕ → ℕ → Single
  refused_single k i = single_of (mark_as k i 0 0) (zeros_like c.lent.vector) (zeros_like c.lent.system)

  -- what holds of both holds of every job
  pub by_check : (P : Single → Type 0) → (checked_call c ≡ Ok tt → P ran_single) → ((f : Fault) → checked_call c ≡ Err f → P (refused_single (Refusals.number_of f.refusal) f.place)) → P (alone c)
  unfolding alone mark_of ending_of refused_of
  by_check P f g = run_by_check (fresh c) (λ (x : Result). P (single_in x)) (λ e. f (sym fresh_check ∙ e)) (λ h e. g h (sym fresh_check ∙ e))

  pub alone_ran : checked_call c ≡ Ok tt → alone c ≡ ran_single
  unfolding alone run_of mark_of ending_of
  alone_ran e =
      let f : checked_call (fresh c) ≡ Ok tt = fresh_check ∙ e in
      rw f

  pub alone_refused : (f : Fault) → checked_call c ≡ Err f → alone c ≡ refused_single (Refusals.number_of f.refusal) f.place
  unfolding alone run_of mark_of refused_of
  alone_refused f e =
      let h : checked_call (fresh c) ≡ Err f = fresh_check ∙ e in
      rw h

-- ---- a DC call

module _ (o : Options) (nodes sources : ℕ) (sheet points : List ℕ) (b s e v y : List Float) where
  -- what a call of `run_alone` leaves, from the engine's answer and its mark
  pub was_marked : (x : Result) (m : Mark) → x ≡ run_of (cleared (dc_call o nodes sources sheet points b s e v y)) → m ≡ mark_of x.outcome → marked_of m x.buffers ≡ marked_run (dc_call o nodes sources sheet points b s e v y)
  unfolding marked_run
  was_marked x m q g = rw g (ap (λ (r : Result). marked_of (mark_of r.outcome) r.buffers) q)

  -- the elimination matrix is scratch of the call as it was lent
  pub was_scratched : (x : List Float) → Scratched (cleared (dc_call o nodes sources sheet points b s e v y)) x → Scratched (dc_call o nodes sources sheet points b s e v y) x
  was_scratched x h =
      let k : checked_call (cleared (dc_call o nodes sources sheet points b s e v y)) ≡ checked_call (dc_call o nodes sources sheet points b s e v y)
      = rw (length-replicate (length s) nought, length-replicate (length v) nought, length-replicate (length y) nought) in
      record { rest = h.rest; kept = λ n. h.kept (λ c. n (sym k ∙ c)) }

  -- of it the mark, the vector and the system are the job alone
  pub marked_alone : (m : Mark) (x : Buffers) → marked_of m x ≡ marked_run (dc_call o nodes sources sheet points b s e v y) → single_of m x.vector x.system ≡ alone (dc_call o nodes sources sheet points b s e v y)
  unfolding marked_run alone
  marked_alone m x q =
      ap (λ (r : Marked). single_of r.mark r.buffers.vector r.buffers.system) q
      ∙ any_scratch o nodes sources sheet points b (zeros_like b) (zeros_like s) e e (zeros_like v) (zeros_like y) (length-replicate (length b) nought) refl

  -- on buffers that are as long as they must be it is the job by itself
  pub alone_single : length b ≡ (nodes + sources) * (nodes + sources + 1) → length s ≡ (nodes + sources) * (nodes + sources + 1) → length e ≡ (nodes + sources) * (nodes + sources + 1)
      → length v ≡ nodes + sources → length y ≡ length sheet / record_bytes
      → alone (dc_call o nodes sources sheet points b s e v y) ≡ single o nodes sources sheet points
  unfolding single alone
  alone_single hb hs he hv hy =
      let n = nodes + sources in
      let c = n * (n + 1) in
      let k = length sheet / record_bytes in
      rw (hb, hs, hv, hy)
      (any_scratch o nodes sources sheet points (zeros c) (zeros c) (zeros c) e (zeros c) (zeros n) (zeros k) refl (length-replicate c nought ∙ sym he) ∙ again n c k)
    where
      again : (n c k : ℕ) → single_in (run_of (dc_call o nodes sources sheet points (zeros c) (zeros c) (zeros c) (zeros n) (zeros k)))
          ≡ single_in (run_of (dc_call o nodes sources sheet points (zeros_like (zeros c)) (zeros_like (zeros c)) (zeros c) (zeros_like (zeros n)) (zeros_like (zeros k))))
      again n c k = rw (length-replicate c nought, length-replicate n nought, length-replicate k nought)

-- the sizes of a job's own call
pub job_sizes_lem : (o : Options) (nodes sources : ℕ) (sheet points : List ℕ) → sizes (job_call o nodes sources sheet points) ≡ job_sizes nodes sources (length sheet) (length points)
job_sizes_lem o nodes sources sheet points =
    let n = nodes + sources in
    rw (length-replicate (n * (n + 1)) nought, length-replicate n nought, length-replicate (length sheet / record_bytes) nought)
