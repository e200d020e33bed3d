-- What every call of spreads keeps, whatever its input, as one theorem over the result in the contract: read Kept, then OfReport and OfJob. Refused, by 13 or 1 to 5, and every result buffer is as it was (the scratch by `ScratchKept` in the contract); or done, and then
-- each job is what it is by itself (single/specs/Laws/Same.antt: what a DC call makes of its sheet), the counts and the report are those of the returned lists, and the rows are their exact sum.
-- Clients cite OfJob, OfReport, OfRefusal, Kept, every_call, of_call and runs. Assumes nothing.
use Rattle.std.specs.Prelude.{ℕ, ◌+◌, ◌*◌, ◌≤◌, ◌<◌, ◌≡◌, Bool, cond, List, ◌++◌, T, get_or, take, drop, replicate, Float}
use Rattle.std.proofs.Math.Path.{refl}
use Rattle.std.proofs.Common.{sym, ap, ◌∙◌, subst, arith, take_at, drop_at}
use Rattle.std.proofs.Math.Bool.{true, false}
use borrow.Author.Tests.{eqb-true, eqb-false}
use Rattle.std.proofs.Math.Dec.{eqb}
use Rattle.std.specs.Float.Ieee.Scale.{finite}
use Rattle.num.specs.Floats.{nought}
use Rattle.numbers.specs.Limits.{job_numbers, sum_limbs}
use Rattle.numbers.specs.Verdicts.{settled, budget_spent}
use Rattle.loops.specs.Each.{each, joined}
use Rattle.loops.specs.Laws.Each.{each_at, each-length, joined_length}
use Rattle.exact.specs.Laws.Limbs.{length_limbs}
use Rattle.exact.specs.Limbs.{limbs_of}
use Rattle.single.specs.Laws.Promises.{Numbered, few, OfSheet, Blank, single_number, single_unplaced, single_passes, single_spent, refused_blank}
use Rattle.tally.specs.declared.Report.{Report}
use Rattle.tally.specs.Tally.{number_in, value_in, how_many, summed, sum_of, Totals, totals_of, totals_over}
use Rattle.tally.specs.Laws.Report.{summed_same, adds_up}
use Rattle.tally.specs.Laws.Same.{many_same}
use Rattle.tally.specs.Laws.Summary.{Summary, summary}
use Rattle.spreads.specs.declared.Spread.{Spread}
use Rattle.spreads.specs.declared.Spread.TheVariants.{Refused, Done}
use Rattle.spreads.specs.Runs.{sheet_at}
use Rattle.spreads.specs.Refusals.{bytes}
use Rattle.spreads.specs.Spreads.{Batch, lengths, batch_refusal, job_in, number_at, value_at, Results, BatchResult, batch_result_of, ran_left, spreads_of}
use Rattle.spreads.specs.Laws.Refusals.{RefusedBy, refused_by, CallFine, call_fine, fine_none}
use Rattle.spreads.specs.Laws.Spreads.{call_done}
use Rattle.spreads.proofs.Laws.Jobs.{vector_long, number_back, place_back, passes_back, vector_back, value_back, totals_back, job_room, value_sound}

module _ (c : Batch) where
  -- N
  abbrev n : ℕ
  n = c.nodes + c.sources

  -- job j's N floats among the vectors
  abbrev vector_of : Results → ℕ → List Float
  vector_of x j = take n (drop (j * n) x.vectors)

  -- ---- job j, in the returned lists x
  pub record OfJob (x : Results) (j : ℕ) : Type 0 where
    -- it is the job by itself
    pub number : get_or x.numbers j 0 ≡ (job_in c j).mark.number
    pub place : get_or x.places j 0 ≡ (job_in c j).mark.place
    pub passes : get_or x.passes j 0 ≡ (job_in c j).mark.passes
    pub vector : vector_of x j ≡ (job_in c j).vector
    -- its number is a DC run's verdict, 0, 20 to 22 or 24, or a refusal 6 to 10
    pub numbered : Numbered (get_or x.numbers j 0)
    -- a settled job's unknowns are finite
    pub finites : get_or x.numbers j 0 ≡ settled → (u : ℕ) → u < n → T (finite (value_in n u x.vectors j))
    -- its passes are within the budget, and with 24 they are the budget
    pub within : get_or x.passes j 0 ≤ c.options.budget
    pub spent : get_or x.numbers j 0 ≡ budget_spent → get_or x.passes j 0 ≡ c.options.budget
    -- "with 0 passes and a zero vector"
    pub «no-passes» : OfSheet (get_or x.numbers j 0) → get_or x.passes j 0 ≡ 0
    pub «zero-vector» : OfSheet (get_or x.numbers j 0) → vector_of x j ≡ replicate n nought
    -- the place is a refused record's, and 0 where none is refused
    pub unplaced : (OfSheet (get_or x.numbers j 0) → ⊥) → get_or x.places j 0 ≡ 0

  -- ---- a call that is done: the report r, and the lent buffers x
  pub record OfReport (r : Report) (x : Results) : Type 0 where
    -- none of the conditions of 13 and 1 to 5 was met
    pub fine : CallFine c.options (lengths c)
    -- "Return for each its verdict, pass count and vector, equal to running the jobs one by one"
    pub job : (j : ℕ) → j < c.jobs → OfJob x j
    -- each count is of the returned numbers, and "the counts over all verdicts and refusals add up to the jobs given"
    pub count : (k : ℕ) → k < job_numbers → get_or x.counts k 0 ≡ how_many (number_in x.numbers) c.jobs k
    pub «counts-add_up» : summed (λ (k : ℕ). get_or x.counts k 0) job_numbers ≡ c.jobs
    pub «settled-counted» : r.settled ≡ get_or x.counts settled 0
    -- the report and the two rows tell of the returned numbers and vectors
    pub tells : Summary (number_in x.numbers) (value_in n c.unknown x.vectors) c.jobs (totals_of r (take sum_limbs x.plus) (take sum_limbs x.minus))
    -- "nothing changes past the lengths named"
    pub vectors : drop (c.jobs * n) x.vectors ≡ drop (c.jobs * n) c.lent.vectors
    pub numbers : drop c.jobs x.numbers ≡ drop c.jobs c.lent.numbers
    pub places : drop c.jobs x.places ≡ drop c.jobs c.lent.places
    pub passes : drop c.jobs x.passes ≡ drop c.jobs c.lent.passes
    pub counts : drop job_numbers x.counts ≡ drop job_numbers c.lent.counts
    pub plus : drop sum_limbs x.plus ≡ drop sum_limbs c.lent.plus
    pub minus : drop sum_limbs x.minus ≡ drop sum_limbs c.lent.minus

-- ---- a call that is refused by k, and the lent buffers x
pub record OfRefusal (c : Batch) (k : ℕ) (x : Results) : Type 0 where
  -- by 13, or by 1 to 5: the first in the order of the checks that is met
  pub number : RefusedBy k
  pub first : k ≡ batch_refusal c
  pub unfit : CallFine c.options (lengths c) → ⊥
  -- "a refusal .. changes no buffer"
  pub buffers : x ≡ c.lent

-- ---- every call
abbrev pub Kept : Batch → Spread → Results → Type 0
Kept c (Refused k) x = OfRefusal c k x
Kept c (Done r) x = OfReport c r x

-- past the numbers that were written the list is as it was
past : (f : ℕ → ℕ) (k : ℕ) (d : List ℕ) → drop k (each f k ++ drop k d) ≡ drop k d
past f k d = drop_at (each f k) (drop k d) k (each-length f k)

module _ (c : Batch) where
  abbrev left : Results
  left = (ran_left c).results

  abbrev total : Totals
  total = totals_over (number_at (job_in c)) (value_at c.unknown (job_in c)) c.jobs

  abbrev numbers : ℕ → ℕ
  numbers = number_in left.numbers

  abbrev values : ℕ → Float
  values = value_in (n c) c.unknown left.vectors

  module _ (ok : CallFine c.options (lengths c)) where
    job_kept : (j : ℕ) → j < c.jobs → OfJob c left j
    job_kept j h =
        let s = sheet_at (bytes (lengths c)) c.sheets j in
        let e = number_back c j h in
        let p = passes_back c j h in
        let v = vector_back c j h in
        let room = job_room c ok j h in
        let blank : OfSheet (get_or left.numbers j 0) → Blank (n c) (job_in c j)
        = λ q. let g = subst OfSheet e q in refused_blank c.options c.nodes c.sources s c.points (omega (arith, g.0)) g.1 in
        record {
          number = e;
          place = place_back c j h;
          passes = p;
          vector = v;
          numbered = subst Numbered (sym e) (single_number c.options c.nodes c.sources s c.points room);
          finites = λ q u g. rw (value_back c u g j h) (value_sound c u g j (sym e ∙ q)).1;
          within = rw p (single_passes c.options c.nodes c.sources s c.points);
          spent = λ q. p ∙ single_spent c.options c.nodes c.sources s c.points room (sym e ∙ q);
          «no-passes» = λ q. p ∙ (blank q).passes;
          «zero-vector» = λ q. v ∙ (blank q).vector;
          unplaced = λ q. place_back c j h ∙ single_unplaced c.options c.nodes c.sources s c.points room (λ g. q (subst OfSheet (sym e) g));
        }

    count_of : (k : ℕ) → k < job_numbers → get_or left.counts k 0 ≡ how_many numbers c.jobs k
    count_of k h = each_at (how_many (number_at (job_in c)) c.jobs) job_numbers k (drop job_numbers c.lent.counts) 0 h ∙ sym (many_same numbers (number_at (job_in c)) c.jobs k (number_back c))

    tells_all : Summary numbers values c.jobs total
    tells_all =
        subst (Summary numbers values c.jobs) (totals_back c c.unknown ok.jobs.inside)
        (summary numbers values c.jobs (omega (arith, ok.jobs.few)) (λ j h q. rw (value_back c c.unknown ok.jobs.inside j h) (value_sound c c.unknown ok.jobs.inside j (sym (number_back c j h) ∙ q))))

    ran : OfReport c total.report left
    ran =
        let e = sum_of (number_at (job_in c)) (value_at c.unknown (job_in c)) c.jobs in
        let p = length_limbs sum_limbs e.plus in
        let m = length_limbs sum_limbs e.minus in
        record {
          fine = ok;
          job = job_kept;
          count = count_of;
          «counts-add_up» = summed_same _ _ job_numbers count_of ∙ adds_up numbers job_numbers c.jobs (λ j h. few _ (job_kept j h).numbered);
          «settled-counted» = tells_all.counted ∙ sym (count_of settled (omega arith));
          tells = rw (take_at (limbs_of sum_limbs e.plus) (drop sum_limbs c.lent.plus) sum_limbs p, take_at (limbs_of sum_limbs e.minus) (drop sum_limbs c.lent.minus) sum_limbs m) tells_all;
          vectors = drop_at (joined (λ (j : ℕ). (job_in c j).vector) c.jobs) (drop (c.jobs * n c) c.lent.vectors) (c.jobs * n c) (joined_length (λ (j : ℕ). (job_in c j).vector) (n c) (vector_long c) c.jobs);
          numbers = past (number_at (job_in c)) c.jobs c.lent.numbers;
          places = past (λ (j : ℕ). (job_in c j).mark.place) c.jobs c.lent.places;
          passes = past (λ (j : ℕ). (job_in c j).mark.passes) c.jobs c.lent.passes;
          counts = past (how_many (number_at (job_in c)) c.jobs) job_numbers c.lent.counts;
          plus = drop_at (limbs_of sum_limbs e.plus) (drop sum_limbs c.lent.plus) sum_limbs p;
          minus = drop_at (limbs_of sum_limbs e.minus) (drop sum_limbs c.lent.minus) sum_limbs m;
        }

  pub every_call : Kept c (spreads_of c).answer (spreads_of c).results
  unfolding spreads_of
  every_call = go (eqb (batch_refusal c) 0) refl
    where
      go : (b : Bool) → eqb (batch_refusal c) 0 ≡ b
          → Kept c (cond b (ran_left c) (batch_result_of (Refused (batch_refusal c)) c.lent)).answer (cond b (ran_left c) (batch_result_of (Refused (batch_refusal c)) c.lent)).results
      go true t = ran (call_fine c.options (lengths c) (eqb-true _ _ t))
      go false t = record { number = refused_by c.options (lengths c) (eqb-false _ _ t); first = refl; unfit = λ f. eqb-false _ _ t (fine_none c.options (lengths c) f); buffers = refl }

  -- the same of an answer and buffers that meet the contract of `spreads`
  pub of_call : (r : Spread) (x : Results) → batch_result_of r x ≡ spreads_of c → Kept c r x
  of_call r x e = subst (λ (y : BatchResult). Kept c y.answer y.results) (sym e) every_call

  -- the other half: a call that meets none of the conditions of 13 and 1 to 5 is done
  pub runs : CallFine c.options (lengths c) → (spreads_of c).answer ≡ Done total.report
  runs ok = ap (λ (x : BatchResult). x.answer) (call_done c (fine_none c.options (lengths c) ok))
