-- The jobs of a call that is not refused as they stand in the returned lists, and what each of them keeps by itself. Clients cite number_back, place_back, passes_back, vector_long, vector_back, value_back, totals_back, job_room and value_sound. Assumes nothing.
use Rattle.std.specs.Prelude.{ℕ, zero, suc, ◌+◌, ◌*◌, ◌≤◌, ◌<◌, ◌≡◌, List, ◌++◌, length, get_or, take, drop}
use Rattle.std.proofs.Common.{⊎_elim, append_assoc, arith, length-drop, length-take-le, take_at, drop_at}
use Rattle.std.specs.Float.{nan}
use Rattle.numbers.specs.Verdicts.{settled}
use Rattle.loops.specs.Each.{joined}
use Rattle.loops.specs.Laws.Loop.{le_or_lt}
use Rattle.loops.specs.Laws.Each.{each_at, joined_at, joined_length, row}
use Rattle.checks.specs.Checks.{sizes_refusal}
use Rattle.exact.specs.Laws.Sums.{Factor}
use Rattle.single.specs.Single.{Single, job_sizes}
use Rattle.single.specs.Laws.Fits.{single_fits}
use Rattle.single.specs.Laws.Promises.{none_refused, single-length, single_finite}
use Rattle.tally.specs.Tally.{number_in, value_in, totals_over}
use Rattle.tally.specs.Laws.Same.{totals_same}
use Rattle.spreads.specs.Runs.{sheet_at}
use Rattle.spreads.specs.Refusals.{bytes, one_job}
use Rattle.spreads.specs.Spreads.{Batch, lengths, job_in, number_at, value_at, Results, ran_left}
use Rattle.spreads.specs.Laws.Refusals.{CallFine, one_none}

-- list j of so many end to end, each of w
joined_part : {A : Type 0} (f : ℕ → List A) (w : ℕ) → ((j : ℕ) → length (f j) ≡ w) → (n j : ℕ) (r : List A) → j < n → take w (drop (j * w) (joined f n ++ r)) ≡ f j
joined_part f w l zero j r h = absurd (omega arith)
joined_part f w l (suc n) j r h =
    ⊎_elim
    (λ (p : n ≤ j). let e : j ≡ n = omega arith in
    rw (append_assoc (joined f n) (f n) r, e, drop_at (joined f n) (f n ++ r) (n * w) (joined_length f w l n)) (take_at (f n) r w (l n)))
    (λ (p : j < n). rw (append_assoc (joined f n) (f n) r) (joined_part f w l n j (f n ++ r) p))
    (le_or_lt n j)

module _ (c : Batch) where
  abbrev job : ℕ → Single
  job = job_in c

  abbrev n : ℕ
  n = c.nodes + c.sources

  abbrev k : ℕ
  k = bytes (lengths c)

  abbrev left : Results
  left = (ran_left c).results

  -- ---- the returned lists

  pub vector_long : (j : ℕ) → length (job j).vector ≡ n
  vector_long j = single-length c.options c.nodes c.sources (sheet_at k c.sheets j) c.points

  pub number_back : (j : ℕ) → j < c.jobs → number_in left.numbers j ≡ number_at job j
  number_back j h = each_at (number_at job) c.jobs j (drop c.jobs c.lent.numbers) 0 h

  pub place_back : (j : ℕ) → j < c.jobs → get_or left.places j 0 ≡ (job j).mark.place
  place_back j h = each_at (λ (i : ℕ). (job i).mark.place) c.jobs j (drop c.jobs c.lent.places) 0 h

  pub passes_back : (j : ℕ) → j < c.jobs → get_or left.passes j 0 ≡ (job j).mark.passes
  passes_back j h = each_at (λ (i : ℕ). (job i).mark.passes) c.jobs j (drop c.jobs c.lent.passes) 0 h

  pub vector_back : (j : ℕ) → j < c.jobs → take n (drop (j * n) left.vectors) ≡ (job j).vector
  vector_back j h = joined_part (λ (i : ℕ). (job i).vector) n vector_long c.jobs j (drop (c.jobs * n) c.lent.vectors) h

  -- unknown u of job j
  pub value_back : (u : ℕ) → u < n → (j : ℕ) → j < c.jobs → value_in n u left.vectors j ≡ value_at u job j
  value_back u g j h = joined_at (λ (i : ℕ). (job i).vector) n vector_long c.jobs j u (drop (c.jobs * n) c.lent.vectors) nan h g

  -- the report over the jobs is that over the returned lists
  pub totals_back : (u : ℕ) → u < n → totals_over (number_in left.numbers) (value_in n u left.vectors) c.jobs ≡ totals_over (number_at job) (value_at u job) c.jobs
  totals_back u g = totals_same (number_in left.numbers) (number_at job) (value_in n u left.vectors) (value_at u job) c.jobs number_back (value_back u g)

  -- ---- each job by itself

  -- its counts and lengths are not refused
  pub job_room : CallFine c.options (lengths c) → (j : ℕ) → j < c.jobs → sizes_refusal c.options (job_sizes c.nodes c.sources (length (sheet_at k c.sheets j)) (length c.points)) ≡ 0
  job_room ok j h =
      let l : length (sheet_at k c.sheets j) ≡ k = part k (j * k) (omega (arith, row j c.jobs k h, ok.even)) in
      rw l (none_refused c.options (one_job (lengths c)) (one_none c.options (lengths c) ok))
    where
      part : (b i : ℕ) → i + b ≤ length c.sheets → length (take b (drop i c.sheets)) ≡ b
      part b i g = length-take-le b (drop i c.sheets) (rw (length-drop i c.sheets) (omega arith))

  -- a settled job's unknowns are finite, and binary64's
  pub value_sound : (u : ℕ) → u < n → (j : ℕ) → number_at job j ≡ settled → Factor (value_at u job j)
  value_sound u g j e =
      let s = sheet_at k c.sheets j in
      (single_fits c.options c.nodes c.sources s c.points u, single_finite c.options c.nodes c.sources s c.points u g e)
