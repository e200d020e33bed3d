-- What the option `catchup` promises. With it on, no diode is behind where a DC run has settled or a transient has come to its end, nor in the vector of any accepted step. A DC run that settles with it on never takes
-- fewer passes than with it off; in as many it has the same bits. With it off nothing of this holds: `cases` computes such a run.
-- Clients cite caught_up_lem, answer_caught_up, accepted_caught_up, with_switch, never_fewer, settles_too and same_bits. Assumes nothing.
use Rattle.std.specs.Prelude.{ℕ, ◌+◌, ◌≤◌, ◌≡◌, Bool, true, false, cond, take, Float}
use Rattle.std.proofs.Math.Path.{refl, ap}
use Rattle.std.proofs.Common.{sym, subst, ◌∙◌, true≢false, inl, arith}
use mathlib.Core.List.{List}
use Rattle.numbers.specs.declared.verdict.Verdict.TheVariants.{Settled, BudgetSpent}
use Rattle.numbers.specs.Verdicts.{settled, number_of}
use Rattle.options.specs.declared.Options.{Options}
use Rattle.options.specs.Switch.{on}
use Rattle.sheet.specs.Check.{Checked}
use Rattle.sheet.specs.declared.Fault.{Fault}
use Rattle.std.specs.declared.result.Result.TheVariants.{Ok, Err}
use Rattle.checks.specs.Checks.{order, records, bad_counts, sizes_fault, checked_of}
use Rattle.checks.specs.Laws.Checks.{fine, clean_fine}
use Rattle.groups.specs.Laws.Storage.{no_diode, taken_elsewhere}
use Rattle.behind.specs.Behind.{behind_number}
use Rattle.behind.specs.Laws.Same.{number_same}
use Rattle.steps.specs.declared.Counters.{Counters}
use Rattle.steps.specs.declared.Report.{Report}
use Rattle.steps.specs.declared.Report.TheVariants.{Yes, No, Error, Diode, Sine}
use Rattle.steps.specs.declared.Phase.TheVariants.{Dc}
use Rattle.steps.specs.Counters.{top, going, verdict_of}
use Rattle.steps.specs.Laws.Verdicts.{differ, one_verdict}
use Rattle.steps.specs.Laws.Waited.{waited_caught}
use Rattle.steps.specs.Laws.Switched.{with_catchup}
use Rattle.machine.specs.State.{State, Attempt}
use Rattle.machine.specs.Machine.{compared, tried, took, tried_by, accepts, step_pass, run_for}
use Rattle.machine.proofs.Laws.Settles.{ends_with_yes}
use Rattle.machine.proofs.Laws.Taken.{holds_of_both}
use Rattle.machine.proofs.Laws.Switched.{Pair, same, apart, pairs}
use Rattle.passes.specs.Attempt.{Circuit, pass_of, attempt_of}
use Rattle.passes.specs.Laws.Switched.{attempts_same}
use Rattle.engine.specs.Work.{start_of, end_of, behind_in}
use Rattle.engine.specs.Engine.{Call, sizes, checked_call, result_of, refused_of, ending_of, circuit, last_of, laid, unless, run_of}
use Rattle.engine.specs.Numbers.{numbers_of}
use Rattle.engine.specs.Laws.Numbers.{refused_numbers, ended_numbers}

-- ---- a pass that says "yes"

module _ (k : Circuit) (on : on k.job.options.catchup ≡ true) where
  -- no diode is behind in what it leaves
  yes_caught : (s : State) → (tried_by (attempt_of k) k.job s).report ≡ Yes
      → behind_number k.job.options k.sheet (tried_by (attempt_of k) k.job s).vector (tried_by (attempt_of k) k.job s).memory ≡ 0
  unfolding took tried compared attempt_of
  yes_caught s e =
      let o = k.job.options in
      let a = attempt_of k s.counters s.accepted s.buffers in
      let caught : behind_number o k.sheet a.vector a.memory ≡ 0 = waited_caught o _ on _ e in
      holds_of_both (attempt_of k) k.job s (λ (m : List Float). behind_number o k.sheet a.vector m ≡ 0) caught
      (number_same k.sheet a.vector a.taken a.memory (λ i h. taken_elsewhere (pass_of k.job k.order s.counters) k.sheet a.vector i (λ q. no_diode (sym q ∙ h)) a.memory) o ∙ caught)

  accepted_yes : (r : Report) → accepts r ≡ true → r ≡ Yes
  accepted_yes Yes h = refl
  accepted_yes No h = absurd (let z : ◌≡◌ {A = ℕ} 0 1 = cc in omega arith)
  accepted_yes Error h = absurd (let z : ◌≡◌ {A = ℕ} 0 1 = cc in omega arith)
  accepted_yes Diode h = absurd (let z : ◌≡◌ {A = ℕ} 0 1 = cc in omega arith)
  accepted_yes Sine h = absurd (let z : ◌≡◌ {A = ℕ} 0 1 = cc in omega arith)

  -- a step that is accepted leaves a vector in which no diode is behind, and that is the accepted one. So it is from every state, thus in every step of every run.
  pub accepted_caught_up : (s : State) → accepts (tried_by (attempt_of k) k.job s).report ≡ true
      → (behind_in k.job.options k.sheet (step_pass (attempt_of k) k.job s).buffers ≡ 0) × ((step_pass (attempt_of k) k.job s).accepted ≡ (step_pass (attempt_of k) k.job s).buffers.vector)
  unfolding step_pass
  accepted_caught_up s h = rw (h) (yes_caught s (accepted_yes _ h), refl)

-- ---- a run

module _ (c : Call) where
  -- with the option on, in a DC run that settled and in a transient that came to its end no diode is behind
  pub caught_up_lem : on c.job.options.catchup ≡ true → verdict_of (last_of c).counters ≡ Settled → behind_in c.job.options c.sheet (last_of c).buffers ≡ 0
  unfolding end_of
  caught_up_lem h e =
      ends_with_yes (λ (v m : List Float). behind_number c.job.options c.sheet v m ≡ 0) (attempt_of (circuit c)) c.job (yes_caught (circuit c) h)
      c.job.options.budget (start_of (circuit c) (take (records (sizes c)) c.lent.memory) c.lent.rows) (inl refl) e

  -- the same of the answer: 0 for a verdict, and none behind
  pub answer_caught_up : on c.job.options.catchup ≡ true → (numbers_of (run_of c).outcome).verdict ≡ settled → (numbers_of (run_of c).outcome).behind ≡ 0
  answer_caught_up h e = by_check (checked_call c) refl
    where
      by_check : (x : Checked) → checked_call c ≡ x → (numbers_of (run_of c).outcome).behind ≡ 0
      by_check (Ok u) q = rw (ended_numbers c q) (caught_up_lem h (one_verdict _ Settled (rw (ended_numbers c q) at e)))
      by_check (Err f) q = rw (refused_numbers c f q)

-- ---- the option on and off

-- the same call with the switch at w
abbrev pub with_switch : ℕ → Call → Call
with_switch w c =
    record {
      job = record { options = with_catchup w c.job.options; nodes = c.job.nodes; transient = c.job.transient };
      sources = c.sources;
      sheet = c.sheet;
      points = c.points;
      elimination = c.elimination;
      lent = c.lent;
    }

-- what is over with 0
over_settled : (c : Counters) → verdict_of c ≡ Settled → (going c ≡ false) × (c.verdict ≡ Settled)
unfolding verdict_of
over_settled c e = go (going c) refl e
  where
    go : (b : Bool) → going c ≡ b → cond b BudgetSpent c.verdict ≡ Settled → (going c ≡ false) × (c.verdict ≡ Settled)
    go true g q = absurd (differ {v = BudgetSpent} {w = Settled} refl q)
    go false g q = (g, q)

settled_over : (c : Counters) → going c ≡ false → c.verdict ≡ Settled → verdict_of c ≡ Settled
unfolding verdict_of
settled_over c g e = rw g e

-- two runs of which the first is the same as the second or ahead of it
module _ (a b : State) where
  not_more : Pair a b → b.counters.passes ≤ a.counters.passes
  not_more (same e) = subst (λ (s : State). s.counters.passes ≤ a.counters.passes) e (omega arith)
  not_more (apart p) = p.fewer

  both_settle : Pair a b → verdict_of a.counters ≡ Settled → verdict_of b.counters ≡ Settled
  both_settle (same e) v = subst (λ (s : State). verdict_of s.counters ≡ Settled) e v
  both_settle (apart p) v = settled_over b.counters p.over p.settles

  as_many : Pair a b → verdict_of a.counters ≡ Settled → a.counters.passes ≡ b.counters.passes → a ≡ b
  as_many (same e) v q = e
  as_many (apart p) v q = absurd (let o = over_settled a.counters v in omega (arith, p.later o.0 o.1))

paired : (f : Attempt) (o : Options) (nodes w : ℕ) (t : Bool) → t ≡ false → (n : ℕ) (s : State) → s.counters.phase ≡ Dc → s.counters.passes + n ≤ top
    → Pair (run_for f (record { options = with_catchup w o; nodes = nodes; transient = t }) n s) (run_for f (record { options = with_catchup 0 o; nodes = nodes; transient = t }) n s)
paired f o nodes w true e n s h l = absurd (true≢false e)
paired f o nodes w false e n s h l = pairs f o nodes w n s h l

module _ (c : Call) (dc : c.job.transient ≡ false) (w : ℕ) where
  -- the call with the switch at w, and without it
  abbrev with_it : Call
  with_it = with_switch w c

  abbrev without : Call
  without = with_switch 0 c

  -- both are refused alike
  same_check : (v : ℕ) → checked_call (with_switch v c) ≡ checked_call without
  unfolding checked_of sizes_fault bad_counts
  same_check v = refl

  -- both begin alike, and stamp and solve alike
  abbrev start : State
  start = start_of (circuit without) (take (records (sizes c)) c.lent.memory) c.lent.rows

  ends_as : (v : ℕ) → last_of (with_switch v c) ≡ run_for (attempt_of (circuit without)) (with_switch v c).job c.job.options.budget start
  unfolding end_of
  ends_as v =
      ap (λ (f : Attempt). run_for f (with_switch v c).job c.job.options.budget start)
      (attempts_same c.job.options v 0 c.job.nodes (order (sizes c)) c.job.transient c.sheet c.points)

  two : checked_call without ≡ Ok tt → Pair (last_of with_it) (last_of without)
  two clean =
      let small : 0 + c.job.options.budget ≤ top = omega (arith, (fine without.job.options (sizes without) (clean_fine without.job.options (sizes without) c.sheet clean).0).spent) in
      subst (λ (s : State). Pair s (last_of without)) (sym (ends_as w))
      (subst (Pair (run_for (attempt_of (circuit without)) with_it.job c.job.options.budget start)) (sym (ends_as 0))
      (paired (attempt_of (circuit without)) c.job.options c.job.nodes w c.job.transient dc c.job.options.budget start refl small))

  -- a DC run never takes fewer passes with the option on than with it off
  pub never_fewer : (numbers_of (run_of without).outcome).passes ≤ (numbers_of (run_of with_it).outcome).passes
  never_fewer = by_check (checked_call without) refl
    where
      by_check : (x : Checked) → checked_call without ≡ x → (numbers_of (run_of without).outcome).passes ≤ (numbers_of (run_of with_it).outcome).passes
      by_check (Ok u) q = rw (ended_numbers without q, ended_numbers with_it (same_check w ∙ q)) (not_more (last_of with_it) (last_of without) (two q))
      by_check (Err f) q = rw (refused_numbers without f q, refused_numbers with_it f (same_check w ∙ q)) (omega arith)

  -- where it settles with the option on, it does with it off
  pub settles_too : (numbers_of (run_of with_it).outcome).verdict ≡ settled → (numbers_of (run_of without).outcome).verdict ≡ settled
  settles_too e = by_check (checked_call without) refl
    where
      by_check : (x : Checked) → checked_call without ≡ x → (numbers_of (run_of without).outcome).verdict ≡ settled
      by_check (Ok u) q =
          rw (ended_numbers without q)
          (ap number_of (both_settle (last_of with_it) (last_of without) (two q) (one_verdict _ Settled (rw (ended_numbers with_it (same_check w ∙ q)) at e))))
      by_check (Err f) q = rw (refused_numbers without f q)

  -- the results of one end
  one_end : last_of with_it ≡ last_of without → run_of with_it ≡ run_of without
  unfolding run_of behind_number checked_of sizes_fault bad_counts
  one_end e =
      ap (λ (t : State). unless (checked_call without) (result_of (ending_of t.counters (behind_in without.job.options c.sheet t.buffers)) (laid (sizes c) t.buffers c.lent)) (result_of (refused_of (checked_call without)) c.lent)) e

  refused_same : (f : Fault) → checked_call without ≡ Err f → run_of with_it ≡ run_of without
  unfolding run_of
  refused_same f q = rw (same_check w ∙ q, q)

  -- a DC run that settles with the option on in as many passes as with it off has the same bits: the same answer, and the same in every lent buffer
  pub same_bits : (numbers_of (run_of with_it).outcome).verdict ≡ settled → (numbers_of (run_of with_it).outcome).passes ≡ (numbers_of (run_of without).outcome).passes → run_of with_it ≡ run_of without
  same_bits e n = by_check (checked_call without) refl
    where
      by_check : (x : Checked) → checked_call without ≡ x → run_of with_it ≡ run_of without
      by_check (Ok u) q =
          let w1 = ended_numbers with_it (same_check w ∙ q) in
          let v = ended_numbers without q in
          one_end (as_many (last_of with_it) (last_of without) (two q) (one_verdict _ Settled (rw w1 at e)) (rw (w1, v) at n))
      by_check (Err f) q = refused_same f q
