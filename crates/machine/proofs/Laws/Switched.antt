-- The same DC run with the switch `catchup` on and off, for every stamping and solving f: the two are one until the run without it says "yes" while a diode is behind. From there on the other goes on, so that it never
-- takes fewer passes, and if it settles in as many, the two are the same. Clients cite Ahead, Pair and pairs. Assumes nothing.
use Prim.Native.Nat.{ℕ, zero, suc, ◌+◌, ◌<◌, ◌≤◌}
use Rattle.std.specs.Prelude.{◌≡◌, Bool, cond, ◌⊎◌, eqb, ltb}
use Rattle.std.proofs.Math.Path.{refl, ap}
use Rattle.std.proofs.Common.{sym, subst, ◌∙◌, true≢false, ⊎_elim}
use Rattle.std.proofs.Math.Bool.{true, false}
use Rattle.std.proofs.Math.Logic.{inl, inr}
use native.Mathlib.Omega.{arith}
use Rattle.numbers.specs.declared.verdict.Verdict.TheVariants.{Settled, PassesUsed}
use Rattle.options.specs.declared.Options.{Options}
use Rattle.options.specs.Switch.{on}
use Rattle.convergence.specs.Convergence.{limit, place, checked, convergence_of}
use Rattle.steps.specs.declared.Counters.{Counters}
use Rattle.steps.specs.declared.Job.{Job}
use Rattle.steps.specs.declared.Report.{Report}
use Rattle.steps.specs.declared.Report.TheVariants.{Yes, No, Error, Diode, Sine}
use Rattle.steps.specs.declared.Phase.TheVariants.{Dc}
use Rattle.steps.specs.Phases.{is_transient}
use Rattle.steps.specs.Laws.Verdicts.{differ}
use Rattle.steps.specs.Counters.{top, counted, going}
use Rattle.steps.specs.Control.{waited, failed, dc_over, dc_after}
use Rattle.steps.specs.Laws.Control.{next_more}
use Rattle.steps.specs.Laws.Waited.{waited_off}
use Rattle.steps.specs.Laws.Switched.{with_catchup}
use Rattle.machine.specs.State.{buffers_of, State, state_of, Attempt}
use Rattle.machine.specs.Machine.{compared, tried, takes, took, tried_by, dc_pass, pass, run_for}
use Rattle.machine.specs.Laws.Budget.{pass_dc, pass_stopped}

-- a DC run is in DC or over
abbrev pub DcOnly : Counters → Type 0
DcOnly c = (c.phase ≡ Dc) ⊎ (going c ≡ false)

-- the run b without the switch is over and settled; the run a with it has made as many passes or more, and more if it settles too
pub record Ahead (a b : Counters) : Type 0 where
  pub over : going b ≡ false
  pub settles : b.verdict ≡ Settled
  pub fewer : b.passes ≤ a.passes
  pub later : going a ≡ false → a.verdict ≡ Settled → b.passes < a.passes

pub data Pair (a b : State) : Type 0 where
  same : a ≡ b → Pair a b
  apart : Ahead a.counters b.counters → Pair a b

-- ---- the control

module _ (o : Options) where
  -- after a pass of a DC run there is no transient
  never_steps : (r : Report) (c : Counters) → c.phase ≡ Dc → (is_transient (dc_after o false r c).phase ≡ false) × DcOnly (dc_after o false r c)
  unfolding dc_after dc_over
  never_steps Yes c h = (refl, inr refl)
  never_steps No c h = go (ltb o.itl1 (counted c).count)
    where
      go : (b : Bool) → (is_transient (cond b (failed PassesUsed (counted c)) (counted c)).phase ≡ false) × DcOnly (cond b (failed PassesUsed (counted c)) (counted c))
      go true = (refl, inr refl)
      go false = (rw h, inl h)
  never_steps Error c h = (refl, inr refl)
  never_steps Diode c h = (refl, inr refl)
  never_steps Sine c h = (refl, inr refl)

  -- a pass of the run that goes on keeps it ahead
  keeps_ahead : (r : Report) (c d : Counters) → c.passes < top → going c ≡ true → Ahead c d → Ahead (dc_after o false r c) d
  unfolding dc_after dc_over
  keeps_ahead Yes c d l g p = record { over = p.over; settles = p.settles; fewer = omega (arith, p.fewer, next_more c.passes l); later = λ _ _. omega (arith, p.fewer, next_more c.passes l) }
  keeps_ahead No c d l g p = go (ltb o.itl1 (counted c).count)
    where
      go : (b : Bool) → Ahead (cond b (failed PassesUsed (counted c)) (counted c)) d
      go true = record { over = p.over; settles = p.settles; fewer = omega (arith, p.fewer, next_more c.passes l); later = λ _ e. absurd (differ refl e) }
      go false = record { over = p.over; settles = p.settles; fewer = omega (arith, p.fewer, next_more c.passes l); later = λ e _. absurd (true≢false (sym g ∙ e)) }
  keeps_ahead Error c d l g p = record { over = p.over; settles = p.settles; fewer = omega (arith, p.fewer, next_more c.passes l); later = λ _ e. absurd (differ refl e) }
  keeps_ahead Diode c d l g p = record { over = p.over; settles = p.settles; fewer = p.fewer; later = λ _ e. absurd (differ refl e) }
  keeps_ahead Sine c d l g p = record { over = p.over; settles = p.settles; fewer = p.fewer; later = λ _ e. absurd (differ refl e) }

  -- "no" in place of "yes" gets ahead
  gets_ahead : (p : Options) (c : Counters) → going c ≡ true → Ahead (dc_after o false No c) (dc_after p false Yes c)
  unfolding dc_after dc_over
  gets_ahead p c g = go (ltb o.itl1 (counted c).count)
    where
      go : (b : Bool) → Ahead (cond b (failed PassesUsed (counted c)) (counted c)) (failed Settled (counted c))
      go true = record { over = refl; settles = refl; fewer = omega arith; later = λ _ e. absurd (differ refl e) }
      go false = record { over = refl; settles = refl; fewer = omega arith; later = λ e _. absurd (true≢false (sym g ∙ e)) }

  -- passes grow by one at most
  one_pass : (r : Report) (c : Counters) → c.passes < top → (dc_after o false r c).passes ≤ c.passes + 1
  unfolding dc_after dc_over
  one_pass Yes c l = omega (arith, next_more c.passes l)
  one_pass No c l = go (ltb o.itl1 (counted c).count)
    where
      go : (b : Bool) → (cond b (failed PassesUsed (counted c)) (counted c)).passes ≤ c.passes + 1
      go true = omega (arith, next_more c.passes l)
      go false = omega (arith, next_more c.passes l)
  one_pass Error c l = omega (arith, next_more c.passes l)
  one_pass Diode c l = omega arith
  one_pass Sine c l = omega arith

-- the control does not look at the switch
control_same : (o : Options) (w v : ℕ) (r : Report) (c : Counters) → dc_after (with_catchup w o) false r c ≡ dc_after (with_catchup v o) false r c
unfolding dc_after dc_over
control_same o w v Yes c = refl
control_same o w v No c = refl
control_same o w v Error c = refl
control_same o w v Diode c = refl
control_same o w v Sine c = refl

-- a report that waits is as it was, or it was "yes" and is "no"
either_way : (o : Options) (b : ℕ) (r : Report) → (waited o b r ≡ r) ⊎ ((r ≡ Yes) × (waited o b r ≡ No))
unfolding waited
either_way o b Yes = go (on o.catchup) (eqb b 0)
  where
    go : (x y : Bool) → (cond x (cond y Yes No) Yes ≡ Yes) ⊎ ((Yes ≡ Yes) × (cond x (cond y Yes No) Yes ≡ No))
    go true true = inl refl
    go true false = inr (refl, refl)
    go false y = inl refl
either_way o b No = inl refl
either_way o b Error = inl refl
either_way o b Diode = inl refl
either_way o b Sine = inl refl

-- ---- a pass

module _ (f : Attempt) (o : Options) (nodes : ℕ) where
  -- the DC job with the switch at w
  abbrev pub job : ℕ → Job
  job w = record { options = with_catchup w o; nodes = nodes; transient = false }

  -- what comparing alone says does not depend on the switch
  abbrev says : State → Report
  says s = (compared f (job 0) s.counters s.accepted s.buffers).report

  says_same : (w : ℕ) (s : State) → (compared f (job w) s.counters s.accepted s.buffers).report ≡ says s
  unfolding compared convergence_of checked place limit
  says_same w s = refl

  -- the report with the switch at w
  abbrev reports : ℕ → State → Report
  reports w s = waited (with_catchup w o) (f s.counters s.accepted s.buffers).behind (says s)

  -- a DC pass with the report r: what the attempt gives, its memory as the vector is taken or not, and the counters after it
  abbrev shaped : ℕ → Report → State → State
  shaped w r s =
      let a = f s.counters s.accepted s.buffers in
      let m = cond (takes (job w) s.counters r) a.taken a.memory in
      state_of (dc_after (with_catchup w o) false r s.counters) s.accepted (buffers_of s.buffers.base a.system a.vector m s.buffers.rows)

  -- where the report is the same, the switch does not matter
  takes_same : (w : ℕ) (c : Counters) (r : Report) → takes (job w) c r ≡ takes (job 0) c r
  unfolding takes
  takes_same w c r = rw (control_same o w 0 r c)

  shaped_same : (w : ℕ) (r : Report) (s : State) → shaped w r s ≡ shaped 0 r s
  shaped_same w r s = rw (control_same o w 0 r s.counters, takes_same w s.counters r)

  named : (w : ℕ) (s : State) → s.counters.phase ≡ Dc → (r : Report) → (tried_by f (job w) s).report ≡ r → dc_pass f (job w) s ≡ shaped w r s
  unfolding dc_pass took tried compared
  named w s h r e = rw (e, (never_steps (with_catchup w o) r s.counters h).0)

  told : (w : ℕ) (s : State) → (tried_by f (job w) s).report ≡ reports w s
  unfolding took tried
  told w s = ap (waited (with_catchup w o) (f s.counters s.accepted s.buffers).behind) (says_same w s)

  dc_shaped : (w : ℕ) (s : State) → s.counters.phase ≡ Dc → dc_pass f (job w) s ≡ shaped w (reports w s) s
  dc_shaped w s h = named w s h (reports w s) (told w s)

  module _ (w : ℕ) where
    -- two passes from one state
    splits : (s : State) → s.counters.phase ≡ Dc → Pair (shaped w (reports w s) s) (shaped 0 (reports 0 s) s)
    splits s h =
        let b = (f s.counters s.accepted s.buffers).behind in
        let off : reports 0 s ≡ says s = waited_off (with_catchup 0 o) b refl (says s) in
        ⊎_elim
        (λ (e : reports w s ≡ says s). same (rw (e, off) (shaped_same w (says s) s)))
        (λ (e : (says s ≡ Yes) × (reports w s ≡ No)). apart (rw (e.1, off, e.0) (gets_ahead (with_catchup w o) (with_catchup 0 o) s.counters (rw h))))
        (either_way (with_catchup w o) b (says s))

    -- ---- the two runs

    -- a is the run with the switch at w, b the one without, and n passes are left to both
    pub record Two (n : ℕ) (a b : State) : Type 0 where
      pub pair : Pair a b
      pub dc : DcOnly a.counters
      pub small : a.counters.passes + n ≤ top

    ended_stays : (s : State) (v : ℕ) → going s.counters ≡ false → pass f (job v) s ≡ s
    ended_stays s v g = pass_stopped f (job v) s g

    dc_passes : (s : State) (v : ℕ) → s.counters.phase ≡ Dc → pass f (job v) s ≡ shaped v (reports v s) s
    dc_passes s v h = pass_dc f (job v) s h ∙ dc_shaped v s h

    -- one pass of both
    both_pass : (n : ℕ) (a b : State) → Two (suc n) a b → Two n (pass f (job w) a) (pass f (job 0) b)
    both_pass n a b t = ⊎_elim live stopped t.dc
      where
        next_dc : (h : a.counters.phase ≡ Dc) → (p : Pair (pass f (job w) a) (pass f (job 0) b)) → Two n (pass f (job w) a) (pass f (job 0) b)
        next_dc h p =
            record {
              pair = p;
              dc = rw (dc_passes a w h) (never_steps (with_catchup w o) (reports w a) a.counters h).1;
              small = rw (dc_passes a w h) (omega (arith, t.small, one_pass (with_catchup w o) (reports w a) a.counters (omega (arith, t.small))));
            }

        by_pair : (h : a.counters.phase ≡ Dc) → Pair a b → Pair (pass f (job w) a) (pass f (job 0) b)
        by_pair h (same e) = rw (← e, dc_passes a w h, dc_passes a 0 h) (splits a h)
        by_pair h (apart p) =
            rw (dc_passes a w h, ended_stays b 0 p.over)
            (apart (keeps_ahead (with_catchup w o) (reports w a) a.counters b.counters (omega (arith, t.small)) (rw h) p))

        live : a.counters.phase ≡ Dc → Two n (pass f (job w) a) (pass f (job 0) b)
        live h = next_dc h (by_pair h t.pair)

        stays : (g : going a.counters ≡ false) → Pair a b → Pair a (pass f (job 0) b)
        stays g (same e) = same (e ∙ sym (ended_stays b 0 (subst (λ (s : State). going s.counters ≡ false) e g)))
        stays g (apart p) = rw (ended_stays b 0 p.over) (apart p)

        stopped : going a.counters ≡ false → Two n (pass f (job w) a) (pass f (job 0) b)
        stopped g = rw (ended_stays a w g) record { pair = stays g t.pair; dc = inr g; small = omega (arith, t.small) }

    both_run : (n : ℕ) (a b : State) → Two n a b → Two 0 (run_for f (job w) n a) (run_for f (job 0) n b)
    unfolding run_for
    both_run zero a b t = t
    both_run (suc n) a b t = both_run n (pass f (job w) a) (pass f (job 0) b) (both_pass n a b t)

    module _ (n : ℕ) (s : State) (dc : s.counters.phase ≡ Dc) (small : s.counters.passes + n ≤ top) where
      -- a DC run with the switch and without it: the same state, or the second has settled before
      pub pairs : Pair (run_for f (job w) n s) (run_for f (job 0) n s)
      pairs = (both_run n s s (record { pair = same refl; dc = inl dc; small = small })).pair
