-- What every call that is not refused keeps, whatever its input: it ends with exactly one verdict of its kind, within its budget of passes, and changes no row buffer past the rows it wrote.
-- Clients cite ends, within_budget, budget_spent_lem, rows_stand and base_made. Assumes nothing.
use Rattle.std.specs.Prelude.{ℕ, ◌+◌, ◌≤◌, ◌≡◌, length, take}
use Rattle.std.proofs.lemmas.List.{length-replicate}
use Rattle.std.proofs.Common.{arith}
use Rattle.num.specs.Floats.{nought}
use Rattle.numbers.specs.declared.verdict.Verdict.TheVariants.{BudgetSpent}
use Rattle.std.specs.declared.result.Result.TheVariants.{Ok, Err}
use Rattle.checks.specs.Checks.{order, records}
use Rattle.checks.specs.Laws.Checks.{fine, clean_fine}
use Rattle.steps.specs.Counters.{top, verdict_of}
use Rattle.machine.specs.State.{State, Attempt}
use Rattle.machine.specs.Laws.Budget.{run_base}
use Rattle.machine.proofs.Laws.OneVerdict.{Verdict, begins_told, one_verdict, still_going}
use Rattle.machine.proofs.Laws.Units.{units, within, passes_at_24}
use Rattle.machine.proofs.Laws.Rows.{Grown, run_grown}
use Rattle.passes.specs.Attempt.{attempt_of}
use Rattle.passes.specs.Laws.Attempt.{steady}
use Rattle.engine.specs.Work.{base_on, start_of, end_of}
use Rattle.engine.specs.Engine.{Call, sizes, checked_call, circuit, last_of}

module _ (c : Call) where
  abbrev tries : Attempt
  tries = attempt_of (circuit c)

  abbrev start : State
  start = start_of (circuit c) (take (records (sizes c)) c.lent.memory) c.lent.rows

  abbrev budget : ℕ
  budget = c.job.options.budget

  -- the verdict is one of a DC run's (0, 20, 21, 22, 24, 26) or of a transient's (0, 21, 22, 23, 24, 25, 26); NoSine says that a DC run's is not 26
  pub ends : Verdict c.job.transient (verdict_of (last_of c).counters)
  unfolding end_of
  ends = one_verdict tries c.job budget start (begins_told c.job.transient)

  module _ (clean : checked_call c ≡ Ok tt) where
    small : 0 + budget ≤ top
    small = omega (arith, (fine c.job.options (sizes c) (clean_fine c.job.options (sizes c) c.sheet clean).0).spent)

    -- the passes counted are at most the budget
    pub within_budget : (last_of c).counters.passes ≤ budget
    unfolding end_of
    within_budget =
        let u = units tries c.job budget start (begins_told c.job.transient) small in
        omega (arith, within tries c.job budget start, u)

    -- and with 24 they are the budget
    pub budget_spent_lem : verdict_of (last_of c).counters ≡ BudgetSpent → (last_of c).counters.passes ≡ budget
    unfolding end_of
    budget_spent_lem e =
        let p = passes_at_24 tries c.job budget start (begins_told c.job.transient) small
        (still_going tries c.job budget start (begins_told c.job.transient) e) in
        omega (arith, p)

  -- past the rows written the row buffer is as it was
  pub rows_stand : length c.lent.rows ≤ top → Grown 0 (order (sizes c)) c.lent.rows (last_of c)
  unfolding end_of
  rows_stand h = run_grown tries c.job (order (sizes c)) (steady (circuit c)) 0 budget start h (omega arith) (length-replicate (order (sizes c)) nought)

  -- the base is the sheet's own, I, R and V over zeros: no pass changes it
  pub base_made : (last_of c).buffers.base ≡ base_on c.job.nodes (order (sizes c)) c.sheet
  unfolding end_of
  base_made = run_base tries c.job budget start
