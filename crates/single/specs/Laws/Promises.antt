-- What a caller above the engine may count on, for all input: which numbers a job can have, that its vector and its system keep their lengths, that a settled job's vector is finite,
-- where the faulty record is, that its passes are within the budget, and what a refusal leaves. Clients cite Numbered, few, none_refused, single_number, single-length, system_length, single_finite, single_place,
-- single_passes, single_spent, OfSheet, single_unplaced, Blank, single_refused and refused_blank. That a job's floats are binary64's is in Fits.antt.
use Rattle.std.specs.Prelude.{ℕ, ◌+◌, ◌*◌, ◌/◌, ◌<◌, ◌≤◌, ◌≡◌, false, List, ◌++◌, T, get_or, drop, replicate, Float}
use Rattle.std.proofs.Math.Path.{refl}
use Rattle.std.proofs.Common.{sym, ap, ◌∙◌, arith, le-ltb, length-append, length-drop}
use Rattle.std.proofs.Math.ListN.{length, length-replicate}
use Rattle.std.specs.Float.{nan}
use Rattle.std.specs.Float.Ieee.Scale.{finite}
use Rattle.num.specs.Floats.{nought}
use Rattle.numbers.specs.Limits.{job_numbers}
use Rattle.numbers.specs.Refusals.{by_order, by_kind, by_pattern}
use Rattle.numbers.specs.declared.verdict.Verdict.{Verdict}
use Rattle.numbers.specs.declared.verdict.Verdict.TheVariants.{BudgetSpent}
use Rattle.numbers.specs.Verdicts.{settled, passes_used, diverged, diode_current, budget_spent, number_of}
use Rattle.options.specs.declared.Options.{Options}
use Rattle.sheet.specs.Record.{record_bytes}
use Rattle.std.specs.declared.result.Result.TheVariants.{Ok, Err}
use Rattle.sheet.specs.Check.{place_of, check_of, bad_sheet, bad_points}
use Rattle.numbers.specs.Refusals as Refusals
use Rattle.sheet.specs.declared.Fault.{Fault}
use Rattle.sheet.specs.Laws.Clean.{First, faulty_at}
use Rattle.checks.specs.declared.Sizes.{Sizes}
use Rattle.checks.specs.Checks.{order, cells, limits_of, bad_order, bad_counts, bad_room, sizes_refusal, checked_of}
use Rattle.checks.specs.Laws.Checks.{cond_none, sizes_none}
use Rattle.steps.specs.Counters.{verdict_of}
use Rattle.steps.specs.Laws.Verdicts.{one_verdict}
use Rattle.machine.proofs.Laws.NoSine.{DcVerdict, «dc-settled», «dc-passes-used», «dc-diverged», «dc-diode», «dc-spent»}
use Rattle.engine.specs.Work.{zeros}
use Rattle.engine.specs.Engine.{Call, sizes, checked_call}
use Rattle.engine.specs.Laws.Lengths.{last_held}
use Rattle.engine.specs.Laws.NoSine.{dc_run_verdict}
use Rattle.engine.specs.Laws.Promises.{within_budget, budget_spent_lem}
use Rattle.single.specs.Single.{mark_as, Single, single_of, fresh, alone, job_call, single, job_sizes}
use Rattle.single.specs.Laws.Alone.{fresh_check, last, by_check, alone_refused, job_sizes_lem}
use Rattle.single.specs.Laws.Settled.{alone_finite}

-- ---- the numbers that a job can have

-- a refusal of its sheet, 6 to 10
abbrev pub OfSheet : ℕ → Type 0
OfSheet k = (by_kind ≤ k) × (k ≤ by_pattern)

-- a refusal of its sheet, 6 to 10, or a DC run's verdict
pub data Numbered : ℕ → Type 0 where
  refused : {k : ℕ} → by_kind ≤ k → k ≤ by_pattern → Numbered k
  «has-settled» : Numbered settled
  «used-passes» : Numbered passes_used
  «has-diverged» : Numbered diverged
  «not-Finite» : Numbered diode_current
  «spent-budget» : Numbered budget_spent

-- each has its place among the 27
pub few : (k : ℕ) → Numbered k → k < job_numbers
few k (refused l h) = omega arith
few k «has-settled» = omega arith
few k «used-passes» = omega arith
few k «has-diverged» = omega arith
few k «not-Finite» = omega arith
few k «spent-budget» = omega arith

told : (v : Verdict) → DcVerdict v → Numbered (number_of v)
told v «dc-settled» = «has-settled»
told v «dc-passes-used» = «used-passes»
told v «dc-diverged» = «has-diverged»
told v «dc-diode» = «not-Finite»
told v «dc-spent» = «spent-budget»

-- no verdict is a refusal
apart : (v : Verdict) → DcVerdict v → by_order ≤ number_of v → number_of v ≤ by_pattern → ⊥
apart v «dc-settled» l h = omega arith
apart v «dc-passes-used» l h = omega arith
apart v «dc-diverged» l h = omega arith
apart v «dc-diode» l h = omega arith
apart v «dc-spent» l h = omega arith

-- ---- buffers of the least lengths

-- such a job is refused by 1 to 5 only where its own counts and lengths are
least_room : (nodes sources sheet points : ℕ) → bad_room (job_sizes nodes sources sheet points) ≡ false
unfolding bad_room
least_room nodes sources sheet points =
    let n = nodes + sources in
    rw (le-ltb (n * (n + 1)) (n * (n + 1)) (omega arith), le-ltb n n (omega arith), le-ltb (sheet / record_bytes) (sheet / record_bytes) (omega arith))

pub none_refused : (o : Options) (z : Sizes) → sizes_refusal o z ≡ 0 → sizes_refusal o (job_sizes z.nodes z.sources z.sheet z.points) ≡ 0
unfolding sizes_refusal
none_refused o z e =
    let r1 = cond_none (bad_order z.nodes z.sources) 0 _ e in
    let r2 = cond_none (bad_sheet z.sheet) 1 _ r1.1 in
    let r3 = cond_none (bad_points z.points) 2 _ r2.1 in
    let r4 = cond_none (bad_counts o) 3 _ r3.1 in
    rw (r1.0, r2.0, r3.0, r4.0, least_room z.nodes z.sources z.sheet z.points)

-- past 1 to 5 the check is the sheet's
pub check_only : (o : Options) (z : Sizes) (sheet : List ℕ) → sizes_refusal o z ≡ 0 → checked_of o z sheet ≡ check_of sheet (limits_of z)
unfolding checked_of
check_only o z sheet e = rw (sizes_none o z e)

-- ---- a job on any sizes

-- what a refusal leaves: no pass, and zeros
pub record Blank (n : ℕ) (x : Single) : Type 0 where
  pub passes : x.mark.passes ≡ 0
  pub vector : x.vector ≡ replicate n nought
  pub system : x.system ≡ replicate (n * (n + 1)) nought

-- k floats, and zeros past them that are none
filled : (x : List Float) (k : ℕ) → length x ≡ k → length (x ++ drop k (zeros k)) ≡ k
filled x k l = length-append x (drop k (zeros k)) ∙ (rw (l, length-drop k (zeros k), length-replicate k nought) (omega arith))

module _ (c : Call) (dc : c.job.transient ≡ false) where
  verdict : DcVerdict (verdict_of (last c).counters)
  verdict = dc_run_verdict (fresh c) dc

  -- a refusal past 1 to 5 is of the sheet
  of_sheet : sizes_refusal c.job.options (sizes c) ≡ 0 → (f : Fault) → checked_call c ≡ Err f → First c.sheet (limits_of (sizes c)) (Refusals.number_of f.refusal) f.place
  of_sheet e f q = faulty_at c.sheet (limits_of (sizes c)) f (sym (check_only c.job.options (sizes c) c.sheet e) ∙ q)

  alone_number : sizes_refusal c.job.options (sizes c) ≡ 0 → Numbered (alone c).mark.number
  alone_number e =
      by_check c (λ (x : Single). Numbered x.mark.number) (λ q. told _ verdict) (λ h q. let f = of_sheet e h q in refused f.least f.most)

  -- with 24 the budget is spent
  alone_spent : sizes_refusal c.job.options (sizes c) ≡ 0 → (alone c).mark.number ≡ budget_spent → (alone c).mark.passes ≡ c.job.options.budget
  alone_spent e =
      by_check c (λ (x : Single). x.mark.number ≡ budget_spent → x.mark.passes ≡ c.job.options.budget) (λ q g. budget_spent_lem (fresh c) (fresh_check c ∙ q) (one_verdict _ BudgetSpent g))
      (λ h q g. absurd (omega (arith, (of_sheet e h q).most)))

  -- no place but a refused record's
  alone_unplaced : sizes_refusal c.job.options (sizes c) ≡ 0 → (OfSheet (alone c).mark.number → ⊥) → (alone c).mark.place ≡ 0
  alone_unplaced e =
      by_check c (λ (x : Single). (OfSheet x.mark.number → ⊥) → x.mark.place ≡ 0) (λ q g. refl)
      (λ h q g. let f = of_sheet e h q in absurd (g (f.least, f.most)))

  alone_blank : length c.lent.vector ≡ order (sizes c) → length c.lent.system ≡ cells (sizes c) → by_order ≤ (alone c).mark.number → (alone c).mark.number ≤ by_pattern → Blank (order (sizes c)) (alone c)
  alone_blank hv hs =
      by_check c (λ (x : Single). by_order ≤ x.mark.number → x.mark.number ≤ by_pattern → Blank (order (sizes c)) x) (λ q l h. absurd (apart _ verdict l h))
      (λ f q l h. record { passes = refl; vector = rw hv; system = rw hs })

alone_passes : (c : Call) → (alone c).mark.passes ≤ c.job.options.budget
alone_passes c = by_check c (λ (x : Single). x.mark.passes ≤ c.job.options.budget) (λ q. within_budget (fresh c) (fresh_check c ∙ q)) (λ f q. omega arith)

alone_place : (c : Call) → (alone c).mark.place ≡ place_of (checked_call c)
alone_place c = by_check c (λ (x : Single). x.mark.place ≡ place_of (checked_call c)) (λ q. rw q) (λ f q. rw q)

-- ---- a job by itself

module _ (o : Options) (nodes sources : ℕ) (sheet points : List ℕ) where
  abbrev c : Call
  c = job_call o nodes sources sheet points

  abbrev z : Sizes
  z = job_sizes nodes sources (length sheet) (length points)

  -- its own call is checked_call as its counts and lengths say
  pub job_check : checked_call c ≡ checked_of o z sheet
  job_check = ap (λ (t : Sizes). checked_of o t sheet) (job_sizes_lem o nodes sources sheet points)

  -- its number is one of 0, 6 to 10, 20 to 22 and 24
  pub single_number : sizes_refusal o z ≡ 0 → Numbered (single o nodes sources sheet points).mark.number
  unfolding single
  single_number e = alone_number c refl (ap (sizes_refusal o) (job_sizes_lem o nodes sources sheet points) ∙ e)

  -- its vector has N floats
  pub single-length : length (single o nodes sources sheet points).vector ≡ nodes + sources
  unfolding single
  single-length =
      by_check c (λ (x : Single). length x.vector ≡ order z)
      (λ q. rw (length-replicate (order z) nought) (filled (last c).buffers.vector (order z) (last_held (fresh c)).vector))
      (λ f q. length-replicate (length (zeros (order z))) nought ∙ length-replicate (order z) nought)

  -- and its system N rows of N + 1
  pub system_length : length (single o nodes sources sheet points).system ≡ (nodes + sources) * (nodes + sources + 1)
  unfolding single
  system_length =
      by_check c (λ (x : Single). length x.system ≡ cells z)
      (λ q. rw (length-replicate (cells z) nought) (filled (last c).buffers.system (cells z) (last_held (fresh c)).system))
      (λ f q. length-replicate (length (zeros (cells z))) nought ∙ length-replicate (cells z) nought)

  -- a settled job's unknowns are finite
  pub single_finite : (u : ℕ) → u < nodes + sources → (single o nodes sources sheet points).mark.number ≡ settled → T (finite (get_or (single o nodes sources sheet points).vector u nan))
  unfolding single
  single_finite u h e = alone_finite c u refl (omega arith) (length-replicate (nodes + sources) nought) h e

  -- its place is the faulty record's, and 0 where there is none
  pub single_place : (single o nodes sources sheet points).mark.place ≡ place_of (checked_of o z sheet)
  unfolding single
  single_place = rw (← job_check) (alone_place c)

  -- and it has no other
  pub single_unplaced : sizes_refusal o z ≡ 0 → (OfSheet (single o nodes sources sheet points).mark.number → ⊥) → (single o nodes sources sheet points).mark.place ≡ 0
  unfolding single
  single_unplaced e = alone_unplaced c refl (ap (sizes_refusal o) (job_sizes_lem o nodes sources sheet points) ∙ e)

  -- its passes are at most the budget
  pub single_passes : (single o nodes sources sheet points).mark.passes ≤ o.budget
  unfolding single
  single_passes = alone_passes c

  -- and with 24 they are the budget
  pub single_spent : sizes_refusal o z ≡ 0 → (single o nodes sources sheet points).mark.number ≡ budget_spent → (single o nodes sources sheet points).mark.passes ≡ o.budget
  unfolding single
  single_spent e = alone_spent c refl (ap (sizes_refusal o) (job_sizes_lem o nodes sources sheet points) ∙ e)

  -- a job that is refused: the mark is the refusal's number and its place
  pub single_refused : (f : Fault) → checked_of o z sheet ≡ Err f → single o nodes sources sheet points ≡ single_of (mark_as (Refusals.number_of f.refusal) f.place 0 0) (replicate (nodes + sources) nought) (replicate ((nodes + sources) * (nodes + sources + 1)) nought)
  unfolding single
  single_refused f e = rw (length-replicate (order z) nought, length-replicate (cells z) nought) at (alone_refused c f (job_check ∙ e))

  -- and whatever has a refusal's number was refused
  pub refused_blank : by_order ≤ (single o nodes sources sheet points).mark.number → (single o nodes sources sheet points).mark.number ≤ by_pattern → Blank (nodes + sources) (single o nodes sources sheet points)
  unfolding single
  refused_blank l h = alone_blank c refl (length-replicate (nodes + sources) nought) (length-replicate (cells z) nought) l h
