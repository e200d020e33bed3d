-- "No input traps it or keeps it running", as one theorem about the result that the contracts name: a call is refused by its number and changes nothing, or it ends with one verdict of its analysis, within its budget of
-- passes, and changes nothing past what it wrote. And it is refused exactly where one of the conditions 1 to 10 holds.
-- Clients cite Refuses, Past, OfAnalysis, Ends, Answer, answered, not_refused and ended_none_met. Assumes nothing.
use Rattle.std.specs.Prelude.{ℕ, ◌+◌, ◌*◌, ◌<◌, ◌≤◌, Bool, true, false, length, get_or, drop}
use Rattle.std.proofs.Math.Path.{◌≡◌, refl, ap}
use Rattle.std.proofs.Common.{◌∙◌, subst, arith, length-take-le}
use Rattle.std.proofs.Math.ListN.{get_or-append}
use Rattle.std.proofs.Math.Seq.{drop_at, get_or-take}
use Rattle.std.specs.Float.Ieee.{nan}
use Rattle.numbers.specs.Kinds.{diode, inductor}
use Rattle.numbers.specs.Refusals.{by_order, by_kind, by_pattern}
use Rattle.numbers.specs.declared.verdict.Verdict as verdicts
use Rattle.numbers.specs.declared.verdict.Verdict.TheVariants.{BudgetSpent}
use Rattle.std.specs.declared.result.Result.TheVariants.{Ok, Err}
use Rattle.numbers.specs.Refusals as Refusals
use Rattle.sheet.specs.Record.{kind_at}
use Rattle.checks.specs.Checks.{order, cells, records}
use Rattle.checks.specs.Laws.Checks.{fine, clean_fine}
use Rattle.checks.specs.Laws.Table.{NoneMet, none_met, clean_none_met, Met, «by-sizes», «by-record», refused_met}
use Rattle.steps.specs.Counters.{top, verdict_of}
use Rattle.machine.specs.State.{Buffers}
use Rattle.machine.proofs.Laws.OneVerdict.{Verdict}
use Rattle.machine.proofs.Laws.NoSine.{DcVerdict}
use Rattle.engine.specs.declared.Ending.{Ending}
use Rattle.engine.specs.declared.Outcome.{Outcome}
use Rattle.engine.specs.declared.Outcome.TheVariants.{Refused, Ended}
use Rattle.engine.specs.Engine.{Call, sizes, checked_call, Result, result_of, ending_of, refused_of, last_of, last_ending, laid, run_of}
use Rattle.engine.specs.Laws.Engine.{run_by_check}
use Rattle.engine.specs.Laws.Lengths.{last_held}
use Rattle.engine.specs.Laws.NoSine.{dc_verdict, dc_run_verdict}
use Rattle.engine.specs.Laws.Promises.{ends as ended, within_budget, budget_spent_lem, rows_stand}

-- a call refused by k at the record i: the number is 1 to 10, and tells which condition of the table holds first; the place is 0 below 6; and every lent buffer is as it was (the elimination matrix, which is scratch, by `Scratched` in the contract)
pub record Refuses (c : Call) (k i : ℕ) : Type 0 where
  pub least : by_order ≤ k
  pub most : k ≤ by_pattern
  pub place : k < by_kind → i ≡ 0
  pub met : Met c.job.options (sizes c) c.sheet k i
  pub kept : (run_of c).buffers ≡ c.lent

-- past the lengths named a buffer is as it was
pub record Past (c : Call) (x : Buffers) : Type 0 where
  pub base : drop (cells (sizes c)) x.base ≡ drop (cells (sizes c)) c.lent.base
  pub system : drop (cells (sizes c)) x.system ≡ drop (cells (sizes c)) c.lent.system
  pub vector : drop (order (sizes c)) x.vector ≡ drop (order (sizes c)) c.lent.vector
  pub memory : drop (records (sizes c)) x.memory ≡ drop (records (sizes c)) c.lent.memory

-- the verdicts of an analysis: of DC 0, 20, 21, 22 and 24; of a transient 0 and 21 to 26
abbrev pub OfAnalysis : Bool → verdicts.Verdict → Type 0
OfAnalysis false v = DcVerdict v
OfAnalysis true v = Verdict true v

-- a call that ended so: its verdict is one of its analysis, and DC's one of DC; the passes solved are at most the budget, and the budget itself with 24; past the rows written the rows are as they
-- were, past the lengths named every buffer is, and so is the memory of a record that is neither diode nor inductor. (A slice's length fits a word; of longer lists nothing is said of rows.)
pub record Ends (c : Call) (e : Ending) : Type 0 where
  pub verdict : OfAnalysis c.job.transient e.verdict
  pub dc : DcVerdict e.dc
  pub passes : e.passes ≤ c.job.options.budget
  pub spent : e.verdict ≡ BudgetSpent → e.passes ≡ c.job.options.budget
  pub rows : length c.lent.rows ≤ top → (m : ℕ) → e.rows * (order (sizes c) + 1) ≤ m → drop m (run_of c).buffers.rows ≡ drop m c.lent.rows
  pub past : Past c (run_of c).buffers
  pub others : (i : ℕ) → i < records (sizes c) → (kind_at c.sheet i ≡ diode → ⊥) → (kind_at c.sheet i ≡ inductor → ⊥) → get_or (run_of c).buffers.memory i nan ≡ get_or c.lent.memory i nan

-- one of the two
pub data Answer (c : Call) : Outcome → Type 0 where
  refuses : {k i : ℕ} → Refuses c k i → Answer c (Refused k i)
  ends : {e : Ending} → Ends c e → Answer c (Ended e)

module _ (c : Call) where
  refusal : (k i : ℕ) → Met c.job.options (sizes c) c.sheet k i → (run_of c).buffers ≡ c.lent → Refuses c k i
  refusal k i («by-sizes» q l h) e = record { least = l; most = omega arith; place = λ p. refl; met = «by-sizes» q l h; kept = e }
  refusal k i («by-record» q f) e = record { least = omega (arith, f.least); most = f.most; place = λ p. absurd (omega (arith, f.least)); met = «by-record» q f; kept = e }

  module _ (clean : checked_call c ≡ Ok tt) where
    abbrev last : Buffers
    last = (last_of c).buffers

    abbrev left : Buffers
    left = laid (sizes c) last c.lent

    -- the memory of a run is one float for each record
    memory_long : length last.memory ≡ records (sizes c)
    memory_long =
        let f = fine c.job.options (sizes c) (clean_fine c.job.options (sizes c) c.sheet clean).0 in
        (last_held c).memory.long ∙ length-take-le (records (sizes c)) c.lent.memory f.«memory-room»

    by_analysis : (b : Bool) → c.job.transient ≡ b → OfAnalysis b (verdict_of (last_of c).counters)
    by_analysis false e = dc_run_verdict c e
    by_analysis true e = subst (λ (b : Bool). Verdict b (verdict_of (last_of c).counters)) e (ended c)

    ending : run_of c ≡ result_of (last_ending c) left → Answer c (last_ending c)
    unfolding ending_of
    ending q =
        let b : (run_of c).buffers ≡ left = ap (λ (x : Result). x.buffers) q in
        let h = last_held c in
        ends (record {
          verdict = by_analysis c.job.transient refl;
          dc = dc_verdict c;
          passes = within_budget c clean;
          spent = budget_spent_lem c clean;
          rows = λ l m p. rw b ((rows_stand c l).stand.rest m p);
          past = rw b (record {
            base = drop_at last.base (drop (cells (sizes c)) c.lent.base) (cells (sizes c)) h.base;
            system = drop_at last.system (drop (cells (sizes c)) c.lent.system) (cells (sizes c)) h.system;
            vector = drop_at last.vector (drop (order (sizes c)) c.lent.vector) (order (sizes c)) h.vector;
            memory = drop_at last.memory (drop (records (sizes c)) c.lent.memory) (records (sizes c)) memory_long;
          });
          others = λ i l o r. rw b (get_or-append last.memory _ nan i (omega (arith, memory_long)) ∙ (h.memory.others i o r ∙ get_or-take (records (sizes c)) c.lent.memory i nan l));
        })

  -- every call, whatever its input
  pub answered : Answer c (run_of c).outcome
  unfolding refused_of
  answered =
      run_by_check c (λ (x : Result). run_of c ≡ x → Answer c x.outcome) (λ e q. ending e q)
      (λ f e q. refuses (refusal (Refusals.number_of f.refusal) f.place (refused_met c.job.options (sizes c) c.sheet f e) (ap (λ (x : Result). x.buffers) q)))
      refl

  -- the table's other half: a call that meets none of the conditions 1 to 10 is not refused, and ends as its last state says
  pub not_refused : NoneMet c.job.options (sizes c) c.sheet → (run_of c).outcome ≡ last_ending c
  unfolding run_of
  not_refused h = rw (none_met c.job.options (sizes c) c.sheet h)

  -- and a call that ended met none of them
  pub ended_none_met : (e : Ending) → (run_of c).outcome ≡ Ended e → NoneMet c.job.options (sizes c) c.sheet
  unfolding refused_of
  ended_none_met e =
      run_by_check c (λ (x : Result). x.outcome ≡ Ended e → NoneMet c.job.options (sizes c) c.sheet) (λ q t. clean_none_met c.job.options (sizes c) c.sheet q)
      (λ f q t. absurd (let z : ◌≡◌ {A = ℕ} 0 1 = cc in omega arith))
