-- What every call of sound spreads keeps, whatever its input, as one theorem over the result in the contract: read Kept, then OfReports, OfJob and SoundJob. Refused, by 13 or 1 to 5, and every result buffer is as it was (the scratch by `ScratchKept` in the
-- contract); or done, and then each job has the one cause that holds of it, the counts and both reports are those of the returned lists, and the part over the settled jobs is what `spreads` answers.
-- Clients cite SoundJob, OfJob, AsSpreads, OfReports, OfRefusal, Kept, every_call, of_call and runs. Assumes nothing.
use Rattle.std.specs.Prelude.{ℕ, ◌+◌, ◌*◌, ◌<◌, ◌≡◌, Bool, cond, List, ◌++◌, T, length, get_or, take, drop, Float, Ok}
use Rattle.std.proofs.Math.Path.{refl}
use Rattle.std.proofs.Common.{sym, ap, ◌∙◌, subst, arith, take_at, drop_at}
use Rattle.std.proofs.Math.Bool.{true, false}
use borrow.Author.Tests.{eqb-true, eqb-false}
use Rattle.std.proofs.Math.Dec.{eqb}
use Rattle.std.specs.Float.Ieee.Scale.{finite}
use Rattle.numbers.specs.Limits.{job_causes, sum_limbs}
use Rattle.numbers.specs.Verdicts.{settled}
use Rattle.loops.specs.Each.{each, joined}
use Rattle.loops.specs.Laws.Each.{each_at, each-length, joined_length}
use Rattle.exact.specs.Limbs.{limbs_of}
use Rattle.exact.specs.Laws.Limbs.{length_limbs}
use Rattle.judge.specs.declared.Judged.TheVariants.{Accepted}
use Rattle.judge.specs.Judge.{judge_of}
use Rattle.judge.specs.Laws.Judge.{Within}
use Rattle.judge.proofs.Laws.Judge.{accepts_only}
use Rattle.single.specs.Laws.Promises.{single_number, system_length}
use Rattle.tally.specs.Tally.{number_in, value_in, how_many, summed, sum_of, Totals, totals_of, totals_over}
use Rattle.tally.specs.Laws.Report.{summed_same, adds_up}
use Rattle.tally.specs.Laws.Same.{many_same, totals_same}
use Rattle.tally.specs.Laws.Summary.{Summary, summary}
use Rattle.spreads.specs.declared.Spread.TheVariants as spread
use Rattle.spreads.specs.Runs.{sheet_at}
use Rattle.spreads.specs.Refusals.{bytes}
use Rattle.spreads.specs.Spreads.{BatchResult, number_at, value_at, spreads_of}
use Rattle.spreads.specs.Laws.Refusals as spreads
use Rattle.spreads.specs.Laws.Refusals.{RefusedBy}
use Rattle.spreads.specs.Laws.Spreads as spreads-call
use Rattle.spreads.proofs.Laws.Jobs.{vector_long, passes_back, vector_back, value_back, job_room, value_sound}
use Rattle.sound.specs.declared.causes.Cause.{Cause}
use Rattle.sound.specs.declared.reports.Reports.{Reports}
use Rattle.sound.specs.declared.Soundings.{Soundings}
use Rattle.sound.specs.declared.Soundings.TheVariants.{Refused, Done}
use Rattle.sound.specs.Causes.{cause_of, numbers_of}
use Rattle.sound.specs.Reports.{reports_of}
use Rattle.sound.specs.Sound.{Results, Call, batch_in, lengths, more_of, refusal_of, job_of, caused_of, SoundResult, sound_result_of, ran_left, sound_of}
use Rattle.sound.specs.Laws.Refusals.{SoundFine, sound_fine, fine_none, refused_by}
use Rattle.sound.proofs.Laws.Causes.{Holds, the_cause, one_cause, sound_settled, zero_sound, by_mark, not_judged, Fits, Caused, caused, few_causes, own_of, own_back}
use Rattle.sound.specs.Laws.Sound.{call_done}

module _ (c : Call) where
  -- N
  abbrev n : ℕ
  n = c.nodes + c.sources

  -- job j's cause, and its N floats among the vectors
  abbrev pub cause_in : ℕ → Cause
  cause_in j = cause_of (job_of c j) c.tolerances n

  abbrev vector_of : Results → ℕ → List Float
  vector_of x j = take n (drop (j * n) x.vectors)

  -- ---- a sound job, in the returned lists x
  pub record SoundJob (x : Results) (j : ℕ) : Type 0 where
    -- its run settled, on a finite vector, and no diode is behind in it
    pub settles : (job_of c j).mark.number ≡ settled
    pub finites : (u : ℕ) → u < n → T (finite (value_in n u x.vectors j))
    pub «caught-up» : (job_of c j).mark.behind ≡ 0
    -- where tolerances are given the judge accepts it on the system that its run left, so that every row's exact residual is within its tolerance
    pub accepted : 0 < length c.tolerances → judge_of n (job_of c j).system (vector_of x j) c.tolerances ≡ Ok Accepted
    pub within : 0 < length c.tolerances → (i : ℕ) → i < n → Within n (job_of c j).system (vector_of x j) c.tolerances i

  -- ---- job j, in the returned lists x
  pub record OfJob (x : Results) (j : ℕ) : Type 0 where
    -- vector and passes are those of the job by itself
    pub passes : get_or x.passes j 0 ≡ (job_of c j).mark.passes
    pub vector : vector_of x j ≡ (job_of c j).vector
    -- cause and place are the numbers of the one cause that holds of it
    pub cause : get_or x.causes j 0 ≡ (numbers_of (cause_in j)).cause
    pub place : get_or x.places j 0 ≡ (numbers_of (cause_in j)).place
    pub holds : Holds (job_of c j) c.tolerances n (cause_in j)
    pub only : (k : Cause) → Holds (job_of c j) c.tolerances n k → k ≡ cause_in j
    -- a cause is 0, 6 to 10, 20 to 22, 24, 27, 11 or 28
    pub caused : Caused (get_or x.causes j 0)
    -- its own number is its cause, and 0 where that is 11, 27 or 28
    pub own : own_of (get_or x.causes j 0) ≡ (job_of c j).mark.number
    -- cause 0 says that it is sound
    pub sound : get_or x.causes j 0 ≡ 0 → SoundJob x j
    -- with no tolerances nothing is judged
    pub unjudged : length c.tolerances ≡ 0 → cause_in j ≡ by_mark (job_of c j) c.tolerances n

  -- ---- the part of a call of `spreads` in it: the report r over the settled jobs, and the lent buffers x
  pub record AsSpreads (r : Reports) (x : Results) : Type 0 where
    pub answer : (spreads_of (batch_in c)).answer ≡ spread.Done r.settled
    pub vectors : (spreads_of (batch_in c)).results.vectors ≡ x.vectors
    pub passes : (spreads_of (batch_in c)).results.passes ≡ x.passes
    pub plus : (spreads_of (batch_in c)).results.plus ≡ x.plus
    pub minus : (spreads_of (batch_in c)).results.minus ≡ x.minus

  -- ---- a call that is done: the reports r, and the lent buffers x
  pub record OfReports (r : Reports) (x : Results) : Type 0 where
    -- none of the conditions of 13 and 1 to 5 was met
    pub fine : SoundFine c.options (lengths c) (more_of c)
    pub job : (j : ℕ) → j < c.jobs → OfJob x j
    -- each count is of the returned causes; sound and all causes add up to the jobs given
    pub count : (k : ℕ) → k < job_causes → get_or x.counts k 0 ≡ how_many (number_in x.causes) c.jobs k
    pub «counts-add_up» : summed (λ (k : ℕ). get_or x.counts k 0) job_causes ≡ c.jobs
    pub «sound-counted» : r.sound.settled ≡ get_or x.counts 0 0
    -- the second report and its rows tell of the sound jobs: their number, the smallest and the largest of them, the earliest on a tie, and their exact sum
    pub sounds : Summary (number_in x.causes) (value_in n c.unknown x.vectors) c.jobs (totals_of r.sound (take sum_limbs x.«sound-plus») (take sum_limbs x.«sound-minus»))
    -- the first and its rows tell the same of the settled jobs, and all of it is what `spreads` answers
    pub settles : Summary (λ (j : ℕ). own_of (number_in x.causes j)) (value_in n c.unknown x.vectors) c.jobs (totals_of r.settled (take sum_limbs x.plus) (take sum_limbs x.minus))
    pub «as-spreads» : AsSpreads r x
    -- nothing changes past the lengths named
    pub vectors : drop (c.jobs * n) x.vectors ≡ drop (c.jobs * n) c.lent.vectors
    pub causes : drop c.jobs x.causes ≡ drop c.jobs c.lent.causes
    pub places : drop c.jobs x.places ≡ drop c.jobs c.lent.places
    pub passes : drop c.jobs x.passes ≡ drop c.jobs c.lent.passes
    pub counts : drop job_causes x.counts ≡ drop job_causes c.lent.counts
    pub plus : drop sum_limbs x.plus ≡ drop sum_limbs c.lent.plus
    pub minus : drop sum_limbs x.minus ≡ drop sum_limbs c.lent.minus
    pub «sound-plus» : drop sum_limbs x.«sound-plus» ≡ drop sum_limbs c.lent.«sound-plus»
    pub «sound-minus» : drop sum_limbs x.«sound-minus» ≡ drop sum_limbs c.lent.«sound-minus»

-- ---- a call that is refused by k, and the lent buffers x
pub record OfRefusal (c : Call) (k : ℕ) (x : Results) : Type 0 where
  -- by 13, or by 1 to 5: the first in the order of the checks that is met
  pub number : RefusedBy k
  pub first : k ≡ refusal_of c
  pub unfit : SoundFine c.options (lengths c) (more_of c) → ⊥
  -- a refusal changes nothing
  pub buffers : x ≡ c.lent

-- ---- every call
abbrev pub Kept : Call → Soundings → Results → Type 0
Kept c (Refused k) x = OfRefusal c k x
Kept c (Done r) x = OfReports c r x

-- past the numbers that were written the list is as it was
past : (f : ℕ → ℕ) (k : ℕ) (d : List ℕ) → drop k (each f k ++ drop k d) ≡ drop k d
past f k d = drop_at (each f k) (drop k d) k (each-length f k)

module _ (c : Call) where
  abbrev left : Results
  left = (ran_left c).results

  abbrev values : ℕ → Float
  values = value_in (n c) c.unknown left.vectors

  abbrev owns : ℕ → ℕ
  owns j = own_of (number_in left.causes j)

  abbrev all : Totals
  all = totals_over (number_at (job_of c)) (value_at c.unknown (job_of c)) c.jobs

  abbrev sound : Totals
  sound = totals_over (number_at (caused_of c)) (value_at c.unknown (job_of c)) c.jobs

  cause_back : (j : ℕ) → j < c.jobs → number_in left.causes j ≡ number_at (caused_of c) j
  cause_back j h = each_at (number_at (caused_of c)) c.jobs j (drop c.jobs c.lent.causes) 0 h

  place_back : (j : ℕ) → j < c.jobs → get_or left.places j 0 ≡ (caused_of c j).mark.place
  place_back j h = each_at (λ (i : ℕ). (caused_of c i).mark.place) c.jobs j (drop c.jobs c.lent.places) 0 h

  module _ (ok : SoundFine c.options (lengths c) (more_of c)) where
    inside : c.unknown < n c
    inside = ok.call.jobs.inside

    fits : (j : ℕ) → Fits (job_of c j) c.tolerances (n c)
    fits j =
        record {
          some = omega (arith, inside);
          small = ok.call.one.small;
          system = system_length c.options c.nodes c.sources (sheet_at (bytes (lengths c)) c.sheets j) c.points;
          vector = vector_long (batch_in c) j;
          enough = ok.tolerances;
        }

    sound_kept : (j : ℕ) → j < c.jobs → get_or left.causes j 0 ≡ 0 → SoundJob c left j
    sound_kept j h e =
        let v = vector_back (batch_in c) j h in
        let s = zero_sound (job_of c j) c.tolerances (n c) (sym (cause_back j h) ∙ e) in
        let a : 0 < length c.tolerances → judge_of (n c) (job_of c j).system (vector_of c left j) c.tolerances ≡ Ok Accepted = λ g. rw v (s.1 g) in
        record {
          settles = s.0.number;
          finites = λ u g. rw (value_back (batch_in c) u g j h) (value_sound (batch_in c) u g j s.0.number).1;
          «caught-up» = s.0.behind;
          accepted = a;
          within = λ g. (accepts_only (n c) (job_of c j).system (vector_of c left j) c.tolerances (a g)).1;
        }

    job_kept : (j : ℕ) → j < c.jobs → OfJob c left j
    job_kept j h =
        let e = cause_back j h in
        let m = single_number c.options c.nodes c.sources (sheet_at (bytes (lengths c)) c.sheets j) c.points (job_room (batch_in c) ok.call j h) in
        record {
          passes = passes_back (batch_in c) j h;
          vector = vector_back (batch_in c) j h;
          cause = e;
          place = place_back j h;
          holds = the_cause (job_of c j) c.tolerances (n c);
          only = one_cause (job_of c j) c.tolerances (n c);
          caused = subst Caused (sym e) (caused (job_of c j) c.tolerances (n c) (fits j) m);
          own = ap own_of e ∙ own_back (job_of c j) c.tolerances (n c) (fits j) m;
          sound = sound_kept j h;
          unjudged = not_judged (job_of c j) c.tolerances (n c);
        }

    count_of : (k : ℕ) → k < job_causes → get_or left.counts k 0 ≡ how_many (number_in left.causes) c.jobs k
    count_of k h = each_at (how_many (number_at (caused_of c)) c.jobs) job_causes k (drop job_causes c.lent.counts) 0 h ∙ sym (many_same (number_in left.causes) (number_at (caused_of c)) c.jobs k cause_back)

    value_of_lem : (j : ℕ) → j < c.jobs → values j ≡ value_at c.unknown (job_of c) j
    value_of_lem = value_back (batch_in c) c.unknown inside

    sounds_all : Summary (number_in left.causes) values c.jobs sound
    sounds_all =
        subst (Summary (number_in left.causes) values c.jobs) (totals_same (number_in left.causes) (number_at (caused_of c)) values (value_at c.unknown (job_of c)) c.jobs cause_back value_of_lem)
        (summary (number_in left.causes) values c.jobs (omega (arith, ok.call.jobs.few)) (λ j h q. rw (value_of_lem j h) (value_sound (batch_in c) c.unknown inside j (sound_settled (job_of c j) c.tolerances (n c) (sym (cause_back j h) ∙ q)))))

    settles_all : Summary (λ (j : ℕ). own_of (number_in left.causes j)) values c.jobs all
    settles_all =
        subst (Summary owns values c.jobs) (totals_same owns (number_at (job_of c)) values (value_at c.unknown (job_of c)) c.jobs (λ j h. (job_kept j h).own) value_of_lem)
        (summary owns values c.jobs (omega (arith, ok.call.jobs.few)) (λ j h q. rw (value_of_lem j h) (value_sound (batch_in c) c.unknown inside j (sym (job_kept j h).own ∙ q))))

    as_spreads : AsSpreads c (reports_of all.report sound.report) left
    as_spreads =
        let d = spreads-call.call_done (batch_in c) (spreads.fine_none c.options (lengths c) ok.call) in
        record {
          answer = ap (λ (x : BatchResult). x.answer) d;
          vectors = ap (λ (x : BatchResult). x.results.vectors) d;
          passes = ap (λ (x : BatchResult). x.results.passes) d;
          plus = ap (λ (x : BatchResult). x.results.plus) d;
          minus = ap (λ (x : BatchResult). x.results.minus) d;
        }

    ran : OfReports c (reports_of all.report sound.report) left
    ran =
        let e = sum_of (number_at (job_of c)) (value_at c.unknown (job_of c)) c.jobs in
        let s = sum_of (number_at (caused_of c)) (value_at c.unknown (job_of c)) c.jobs in
        let p = length_limbs sum_limbs e.plus in
        let m = length_limbs sum_limbs e.minus in
        let sp = length_limbs sum_limbs s.plus in
        let sm = length_limbs sum_limbs s.minus in
        record {
          fine = ok;
          job = job_kept;
          count = count_of;
          «counts-add_up» = summed_same _ _ job_causes count_of ∙ adds_up (number_in left.causes) job_causes c.jobs (λ j h. few_causes _ (job_kept j h).caused);
          «sound-counted» = sounds_all.counted ∙ sym (count_of 0 (omega arith));
          sounds = rw (take_at (limbs_of sum_limbs s.plus) (drop sum_limbs c.lent.«sound-plus») sum_limbs sp, take_at (limbs_of sum_limbs s.minus) (drop sum_limbs c.lent.«sound-minus») sum_limbs sm) sounds_all;
          settles = rw (take_at (limbs_of sum_limbs e.plus) (drop sum_limbs c.lent.plus) sum_limbs p, take_at (limbs_of sum_limbs e.minus) (drop sum_limbs c.lent.minus) sum_limbs m) settles_all;
          «as-spreads» = as_spreads;
          vectors = drop_at (joined (λ (j : ℕ). (job_of c j).vector) c.jobs) (drop (c.jobs * n c) c.lent.vectors) (c.jobs * n c) (joined_length (λ (j : ℕ). (job_of c j).vector) (n c) (vector_long (batch_in c)) c.jobs);
          causes = past (number_at (caused_of c)) c.jobs c.lent.causes;
          places = past (λ (j : ℕ). (caused_of c j).mark.place) c.jobs c.lent.places;
          passes = past (λ (j : ℕ). (job_of c j).mark.passes) c.jobs c.lent.passes;
          counts = past (how_many (number_at (caused_of c)) c.jobs) job_causes c.lent.counts;
          plus = drop_at (limbs_of sum_limbs e.plus) (drop sum_limbs c.lent.plus) sum_limbs p;
          minus = drop_at (limbs_of sum_limbs e.minus) (drop sum_limbs c.lent.minus) sum_limbs m;
          «sound-plus» = drop_at (limbs_of sum_limbs s.plus) (drop sum_limbs c.lent.«sound-plus») sum_limbs sp;
          «sound-minus» = drop_at (limbs_of sum_limbs s.minus) (drop sum_limbs c.lent.«sound-minus») sum_limbs sm;
        }

  pub every_call : Kept c (sound_of c).answer (sound_of c).results
  unfolding sound_of
  every_call = go (eqb (refusal_of c) 0) refl
    where
      go : (b : Bool) → eqb (refusal_of c) 0 ≡ b
          → Kept c (cond b (ran_left c) (sound_result_of (Refused (refusal_of c)) c.lent)).answer (cond b (ran_left c) (sound_result_of (Refused (refusal_of c)) c.lent)).results
      go true t = ran (sound_fine c.options (lengths c) (more_of c) (eqb-true _ _ t))
      go false t =
          record {
            number = refused_by c.options (lengths c) (more_of c) (eqb-false _ _ t);
            first = refl;
            unfit = λ f. eqb-false _ _ t (fine_none c.options (lengths c) (more_of c) f);
            buffers = refl;
          }

  -- the same of an answer and buffers that meet the contract of `sound_spreads`
  pub of_call : (r : Soundings) (x : Results) → sound_result_of r x ≡ sound_of c → Kept c r x
  of_call r x e = subst (λ (y : SoundResult). Kept c y.answer y.results) (sym e) every_call

  -- the other half: a call that meets none of the conditions of 13 and 1 to 5 is done
  pub runs : SoundFine c.options (lengths c) (more_of c) → (sound_of c).answer ≡ Done (reports_of all.report sound.report)
  runs ok = ap (λ (x : SoundResult). x.answer) (call_done c (fine_none c.options (lengths c) (more_of c) ok))
