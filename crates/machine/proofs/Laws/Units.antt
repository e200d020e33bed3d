-- What a run counts, for every stamping and solving f: the passes are the units of budget that it used, less the one of a pass that failed.
-- Clients cite used, lost, units, within and passes_at_24. Assumes nothing.
use Prim.Native.Nat.{ℕ, zero, suc, ◌+◌, ◌<◌, ◌≤◌}
use Rattle.std.proofs.Math.Path.{◌≡◌, refl, ap}
use Rattle.std.proofs.Common.{sym, ◌∙◌}
use Rattle.std.specs.Prelude.{Bool, eqb}
use Rattle.std.proofs.Math.Bool.{true, false, cond}
use native.Mathlib.Omega.{arith}
use Rattle.steps.specs.declared.Counters.{Counters}
use Rattle.numbers.specs.declared.verdict.Verdict.{Verdict}
use Rattle.numbers.specs.declared.verdict.Verdict.TheVariants.{Settled, PassesUsed, Diverged, DiodeCurrent, StepTooSmall, BudgetSpent, NoRoom, SineRefused}
use Rattle.steps.specs.Counters.{top, going}
use Rattle.steps.specs.Laws.Control.{next_more, Ends, settles, «runs-out», diverges, shrinks, fills, Fails, «at-diode», «at-sine», Closed}
use Rattle.steps.specs.declared.Job.{Job}
use Rattle.machine.specs.State.{State, Attempt}
use Rattle.machine.specs.Machine.{pass, run_for}
use Rattle.machine.specs.Laws.Budget.{pass_stopped, run_stopped}
use Rattle.machine.proofs.Laws.Kept.{Own, fault_at, pass_solved, pass_failed}
use Rattle.machine.proofs.Laws.OneVerdict.{Told, pass_told}

-- the units of a budget of n that a run uses: one for each pass of a run that is going
unfoldable pub used : Attempt → Job → ℕ → State → ℕ
used f j zero s = 0
used f j (suc n) s = cond (going s.counters) (suc (used f j n (pass f j s))) 0

-- 1 for a run that ended in a pass that failed, 22 or 26
abbrev pub failing : Verdict → Bool
failing Settled = false
failing PassesUsed = false
failing Diverged = false
failing DiodeCurrent = true
failing StepTooSmall = false
failing BudgetSpent = false
failing NoRoom = false
failing SineRefused = true

abbrev pub lost : Counters → ℕ
lost c = cond (going c) 0 (cond (failing c.verdict) 1 0)

ends_fair : (t : Bool) (v : Verdict) → Ends t v → failing v ≡ false
ends_fair t v settles = refl
ends_fair t v «runs-out» = refl
ends_fair t v diverges = refl
ends_fair t v shrinks = refl
ends_fair t v fills = refl

fails_fail : (v : Verdict) → Fails v → failing v ≡ true
fails_fail v «at-diode» = refl
fails_fail v «at-sine» = refl

-- k passes, and none lost
record Fair (k : ℕ) (c : Counters) : Type 0 where
  passes : c.passes ≡ k
  none : lost c ≡ 0

fair_closed : (tr : Bool) (k : ℕ) → Closed tr (Fair k)
fair_closed tr k =
    record {
      ends = λ c e p. record { passes = p.passes; none = rw (ends_fair tr _ e) };
      dcs = λ c e p. record { passes = p.passes; none = p.none };
      begins = λ d c t p. record { passes = p.passes; none = refl };
      news = λ c p. record { passes = p.passes; none = p.none };
      agains = λ c p. record { passes = p.passes; none = p.none };
      steps = λ d c p. record { passes = p.passes; none = p.none };
      times = λ t c p. record { passes = p.passes; none = p.none };
      rows = λ c p. record { passes = p.passes; none = p.none };
    }

lost_going : (c : Counters) → going c ≡ true → lost c ≡ 0
lost_going c g = rw g

-- passes, and the pass that failed
abbrev spent_by : Counters → ℕ
spent_by c = c.passes + lost c

module _ (f : Attempt) (j : Job) where
  -- a pass of a run that is going is one unit
  one_unit : (s : State) → going s.counters ≡ true → Own j.transient s.counters → s.counters.passes < top → spent_by (pass f j s).counters ≡ s.counters.passes + 1
  one_unit s g own h = by_fault (eqb (fault_at f j s) 0) refl
    where
      by_fault : (b : Bool) → eqb (fault_at f j s) 0 ≡ b → spent_by (pass f j s).counters ≡ s.counters.passes + 1
      by_fault true z =
          let p = pass_solved (Fair (s.counters.passes + 1)) f j (fair_closed j.transient _) s g own z (record { passes = next_more _ h; none = lost_going s.counters g }) in
          omega (arith, p.passes, p.none)
      by_fault false z =
          pass_failed f j s (λ (c : Counters). spent_by c ≡ s.counters.passes + 1) g z
          (λ v e. record { step = rw (fails_fail v e); dc = rw (fails_fail v e) })

  -- the passes counted, and the one that failed, are the units used
  pub units : (n : ℕ) (s : State) → Told j.transient s.counters → s.counters.passes + n ≤ top → spent_by (run_for f j n s).counters ≡ spent_by s.counters + used f j n s
  unfolding run_for used
  units zero s t h = omega arith
  units (suc n) s t h = by_going (λ q. units n (pass f j s) (pass_told f j s t) q) (going s.counters) refl
    where
      by_going : ((pass f j s).counters.passes + n ≤ top → spent_by (run_for f j n (pass f j s)).counters ≡ spent_by (pass f j s).counters + used f j n (pass f j s))
          → (b : Bool) → going s.counters ≡ b → spent_by (run_for f j n (pass f j s)).counters ≡ spent_by s.counters + cond b (suc (used f j n (pass f j s))) 0
      by_going more true g =
          let u = one_unit s g t.own (omega arith) in
          omega (arith, more (omega arith), lost_going s.counters g)
      by_going more false g =
          let e : run_for f j n (pass f j s) ≡ s = ap (run_for f j n) (pass_stopped f j s g) ∙ run_stopped f j n s g in
          rw e (omega arith)

  -- no run uses more than its budget
  pub within : (n : ℕ) (s : State) → used f j n s ≤ n
  unfolding used
  within zero s = omega arith
  within (suc n) s = either (within n (pass f j s)) (going s.counters)
    where
      either : used f j n (pass f j s) ≤ n → (b : Bool) → cond b (suc (used f j n (pass f j s))) 0 ≤ suc n
      either h true = omega arith
      either h false = omega arith

  -- a run that is still going has used all of it
  pub used_all : (n : ℕ) (s : State) → going (run_for f j n s).counters ≡ true → used f j n s ≡ n
  unfolding run_for used
  used_all zero s h = refl
  used_all (suc n) s h = by_going (used_all n (pass f j s) h) (going s.counters) refl
    where
      by_going : used f j n (pass f j s) ≡ n → (b : Bool) → going s.counters ≡ b → cond b (suc (used f j n (pass f j s))) 0 ≡ suc n
      by_going i true g = ap suc i
      by_going i false g =
          let e : run_for f j n (pass f j s) ≡ s = ap (run_for f j n) (pass_stopped f j s g) ∙ run_stopped f j n s g in
          let q : going s.counters ≡ true = rw e at h in
          absurd (let z : ◌≡◌ {A = ℕ} 0 1 = cc in omega arith)

  -- and was going when it began
  was_going : (n : ℕ) (s : State) → going (run_for f j n s).counters ≡ true → going s.counters ≡ true
  was_going n s h = by_going (going s.counters) refl
    where
      by_going : (b : Bool) → going s.counters ≡ b → b ≡ true
      by_going true g = refl
      by_going false g = sym g ∙ (rw (run_stopped f j n s g) at h)

  -- at a 24 the passes are the units given
  pub passes_at_24 : (n : ℕ) (s : State) → Told j.transient s.counters → s.counters.passes + n ≤ top → going (run_for f j n s).counters ≡ true
      → (run_for f j n s).counters.passes ≡ s.counters.passes + n
  passes_at_24 n s t h g = omega (arith, units n s t h, used_all n s g, lost_going (run_for f j n s).counters g, lost_going s.counters (was_going n s g))
