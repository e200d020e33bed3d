-- When a pass is stamped as the one before it: the counters of a live run that is neither at a step's first pass nor after a cut have the phase, the time and the step of the last pass. Assumes nothing.
use Prim.Native.Nat.{ℕ}
use mathlib.Core.Path.{◌≡◌, refl, sym, ap, ◌∙◌}
use mathlib.Core.Logic.{◌⊎◌, inl, inr, ⊎_elim}
use mathlib.Core.Bool.{Bool, true, false, cond, ◌&&◌, false≢true}
use mathlib.Core.List.{List}
use lib.Dec.{ltb, leb}
use lib.ListN.{length}
use lib.Ieee as Ieee
use lib.Ieee.{Float, binary64}
use Rattle.options.specs.declared.Options.{Options}
use Rattle.groups.specs.Storage.{taken_of}
use Rattle.steps.specs.declared.Counters.{Counters}
use Rattle.steps.specs.declared.Job.{Job}
use Rattle.steps.specs.declared.Report.{Report}
use Rattle.steps.specs.declared.Report.TheVariants.{Yes, No, Error, Diode, Sine}
use Rattle.numbers.specs.declared.verdict.Verdict.{Verdict}
use Rattle.numbers.specs.declared.verdict.Verdict.TheVariants.{Settled, PassesUsed, Diverged, StepTooSmall, NoRoom}
use Rattle.steps.specs.declared.Phase.TheVariants.{Dc}
use Rattle.steps.specs.Phases.{is_dc, is_transient}
use Rattle.steps.specs.Laws.Phases.{dc_phase, not_dc}
use Rattle.steps.specs.Counters.{counted, ended, again, with_step, written, going}
use Rattle.steps.specs.Control.{dc_over, dc_after, moved, shortened, step_after, row_due}
use Rattle.steps.specs.Control.{solved}
use Rattle.machine.specs.State.{Written, written_of}
use Rattle.machine.specs.Machine.{written_by, landed, accepts, takes}
use Rattle.passes.specs.Attempt.{Circuit, pass_of}
use Rattle.passes.specs.Again.{linear_at, alike, Holds, memory_after}
use Rattle.passes.specs.Done.{dc_done, step_done, Aftermath, aftermath_of, aftermath}

-- the same pass is stamped at both
pub record Same (d c : Counters) : Type 0 where
  pub phase : d.phase ≡ c.phase
  pub time : d.time ≡ c.time
  pub step : d.step ≡ c.step

pub moves : (k : Circuit) (d c : Counters) (a b held s v y : List Float) → Same d c → Holds k c a b held s v y → Holds k d a b held s v y
moves k d c a b held s v y e h =
    let q : linear_at k d a b y ≡ linear_at k c a b y = rw (e.phase, e.time, e.step) in
    record { whole = λ l. (q ∙ (h.whole l).0, (h.whole l).1); part = λ l. q ∙ h.part l }

pub later : (c : Counters) → alike c ≡ true → c.first ≡ false
unfolding alike
later c h = go c.first refl
  where
    go : (b : Bool) → c.first ≡ b → c.first ≡ false
    go true e = absurd (false≢true (rw e at h))
    go false e = e

-- ---- DC

over_new : (o : Options) (tr : Bool) (v : Verdict) (c : Counters) → going (dc_over o tr v c) ≡ true → (dc_over o tr v c).first ≡ false → ⊥
unfolding dc_over
over_new o true v c g f = false≢true (sym f)
over_new o false v c g f = false≢true g

pub dc_alike : (o : Options) (tr : Bool) (r : Report) (c : Counters) → going (dc_after o tr r c) ≡ true → (dc_after o tr r c).first ≡ false → (solved r ≡ true) × Same (dc_after o tr r c) c
unfolding dc_after
dc_alike o tr Yes c g f = absurd (over_new o tr Settled (counted c) g f)
dc_alike o tr No c g f = go (ltb o.itl1 (counted c).count) g f
  where
    go : (b : Bool) → going (cond b (dc_over o tr PassesUsed (counted c)) (counted c)) ≡ true → (cond b (dc_over o tr PassesUsed (counted c)) (counted c)).first ≡ false → (solved No ≡ true) × Same (cond b (dc_over o tr PassesUsed (counted c)) (counted c)) c
    go true g f = absurd (over_new o tr PassesUsed (counted c) g f)
    go false g f = (refl, record { phase = refl; time = refl; step = refl })
dc_alike o tr Error c g f = absurd (over_new o tr Diverged (counted c) g f)
dc_alike o tr Diode c g f = absurd (false≢true g)
dc_alike o tr Sine c g f = absurd (false≢true g)

-- ---- a step

-- a step that was cut is not stamped as before
cut_new : (o : Options) (c : Counters) → c.first ≡ false → going (shortened o c) ≡ true → alike (shortened o c) ≡ true → ⊥
unfolding shortened alike
cut_new o c f g h = go (Ieee.lt (Ieee.mul binary64 c.step o.ft) (Ieee.mul binary64 o.tstep o.rmin)) g h
  where
    go : (b : Bool) → going (cond b (ended StepTooSmall (moved o (with_step (Ieee.mul binary64 c.step o.ft) c))) (again (with_step (Ieee.mul binary64 c.step o.ft) c))) ≡ true → alike (cond b (ended StepTooSmall (moved o (with_step (Ieee.mul binary64 c.step o.ft) c))) (again (with_step (Ieee.mul binary64 c.step o.ft) c))) ≡ true → ⊥
    go true g h = false≢true g
    go false g h = false≢true (rw f at h)

pub step_alike : (o : Options) (r : Report) (c : Counters) → going (step_after o r c) ≡ true → alike (step_after o r c) ≡ true → (accepts r ≡ false) × (solved r ≡ true) × Same (step_after o r c) c
unfolding step_after alike
step_alike o Yes c g h = absurd (false≢true h)
step_alike o No c g h = go (leb o.itl4 (counted c).count) g h
  where
    go : (b : Bool) → going (cond b (shortened o (counted c)) (counted c)) ≡ true → alike (cond b (shortened o (counted c)) (counted c)) ≡ true → (accepts No ≡ false) × (solved No ≡ true) × Same (cond b (shortened o (counted c)) (counted c)) c
    go true g h = absurd (cut_new o (counted c) refl g h)
    go false g h = (refl, refl, record { phase = refl; time = refl; step = refl })
step_alike o Error c g h = absurd (false≢true g)
step_alike o Diode c g h = absurd (false≢true g)
step_alike o Sine c g h = absurd (false≢true g)

-- ---- rows

pub write_going : (d w : Counters) (v rows z : List Float) → written_of w z ≡ written_by d v rows → going w ≡ true → w ≡ written d
unfolding written_by
write_going d w v rows z e g = go (ltb d.rows _) _ e
  where
    go : (b : Bool) (x : List Float) → written_of w z ≡ cond b (written_of (written d) x) (written_of (ended NoRoom d) rows) → w ≡ written d
    go true x q = ap (λ (t : Written). t.counters) q
    go false x q = absurd (false≢true (ap (λ (t : Written). going t.counters) (sym q) ∙ g))

pub land_going : (o : Options) (d w : Counters) (v rows z : List Float) → written_of w z ≡ landed o d v rows → going w ≡ true → (w ≡ written d) ⊎ (w ≡ d)
unfolding landed
land_going o d w v rows z e g = go (row_due o d.time) e
  where
    go : (b : Bool) → written_of w z ≡ cond b (written_by d v rows) (written_of d rows) → (w ≡ written d) ⊎ (w ≡ d)
    go true q = inl (write_going d w v rows z q g)
    go false q = inr (ap (λ (t : Written). t.counters) q)

-- ---- what the next pass finds

-- a row more changes nothing that is stamped
pub row_same : (d : Counters) → Same (written d) d
row_same d = record { phase = refl; time = refl; step = refl }

-- after an accepted step all is new
pub accepted_new : (o : Options) (r : Report) (c d w : Counters) (x rows z : List Float) → d ≡ step_after o r c → accepts r ≡ true → written_of w z ≡ landed o d x rows → going w ≡ true → alike w ≡ true → ⊥
unfolding alike
accepted_new o r c d w x rows z e y q g l = ⊎_elim (new (written d) refl refl) (new d refl refl) (land_going o d w x rows z q g)
  where
    new : (v : Counters) → going d ≡ going v → alike d ≡ alike v → w ≡ v → ⊥
    new v a b p = false≢true (sym (step_alike o r c (ap going (sym e) ∙ (a ∙ (ap going (sym p) ∙ g))) (ap alike (sym e) ∙ (b ∙ (ap alike (sym p) ∙ l)))).0 ∙ y)

-- where the next pass is stamped as the last, no vector was taken
dc_not_taken : (j : Job) (r : Report) (c : Counters) → c.phase ≡ Dc → Same (dc_after j.options j.transient r c) c → takes j c r ≡ false
unfolding takes
dc_not_taken j r c h y = rw (ap is_dc h, ap is_dc (y.phase ∙ h)) (off (solved r))
  where
    off : (b : Bool) → (b && false) ≡ false
    off true = refl
    off false = refl

step_not_taken : (j : Job) (r : Report) (c : Counters) → (c.phase ≡ Dc → ⊥) → accepts r ≡ false → takes j c r ≡ false
unfolding takes
step_not_taken j r c h y = rw (not_dc _ h, y)

-- of a pass that the counters c began: y is the memory that its attempt left, u the memory after it
module _ (k : Circuit) (j : Job) (r : Report) (c w : Counters) (a b held s v x rows z y u : List Float) (h : solved r ≡ true → Holds k c a b held s v y) (m : u ≡ memory_after j r c k.sheet x y) where
  -- what is held goes on, if the pass was solved and nothing was taken
  goes_on : (d : Counters) → solved r ≡ true → takes j c r ≡ false → Same d c → Holds k d a b held s v u
  unfolding memory_after
  goes_on d q t e =
      let n : u ≡ y = m ∙ ap (λ (b : Bool). cond b (taken_of (pass_of j (length x) c) k.sheet x y) y) t in
      rw n (moves k d c a b held s v y e (h q))

  pub next_dc : c.phase ≡ Dc → written_of w z ≡ dc_done j r c x rows → going w ≡ true → alike w ≡ true → Holds k w a b held s v u
  unfolding dc_done alike
  next_dc dc e g l = go (is_transient (dc_after j.options j.transient r c).phase) e
    where
      d : Counters
      d = dc_after j.options j.transient r c

      same : going d ≡ true → alike d ≡ true → Holds k d a b held s v u
      same g l =
          let y = dc_alike j.options j.transient r c g (later d l) in
          goes_on d y.0 (dc_not_taken j r c dc y.1) y.1

      go : (q : Bool) → written_of w z ≡ cond q (written_by d x rows) (written_of d rows) → Holds k w a b held s v u
      go true q =
          let p = write_going d w x rows z q g in
          rw p (moves k (written d) d a b held s v u (row_same d) (same (ap going (sym p) ∙ g) (ap alike (sym p) ∙ l)))
      go false q =
          let p : w ≡ d = ap (λ (t : Written). t.counters) q in
          rw p (same (ap going (sym p) ∙ g) (ap alike (sym p) ∙ l))

  pub next_step : (c.phase ≡ Dc → ⊥) → (n : List Float) → written_of w z ≡ step_done j r c x rows → n ≡ cond (accepts r) x a → going w ≡ true → alike w ≡ true → Holds k w n b held s v u
  unfolding step_done
  next_step dc n e t g l = go (accepts r) refl e t
    where
      d : Counters
      d = step_after j.options r c

      go : (y : Bool) → accepts r ≡ y → written_of w z ≡ cond y (landed j.options d x rows) (written_of d rows) → n ≡ cond y x a → Holds k w n b held s v u
      go true y q t = absurd (accepted_new j.options r c d w x rows z refl y q g l)
      go false y q t =
          let p : w ≡ d = ap (λ (t : Written). t.counters) q in
          let m = step_alike j.options r c (ap going (sym p) ∙ g) (ap alike (sym p) ∙ l) in
          rw (p, t) (goes_on d m.1 (step_not_taken j r c dc m.0) m.2)

  pub next_pass : (n : List Float) → aftermath_of w n z ≡ aftermath j r c a x rows → going w ≡ true → alike w ≡ true → Holds k w n b held s v u
  unfolding aftermath
  next_pass n e g l = go (is_dc c.phase) refl e
    where
      go : (q : Bool) → is_dc c.phase ≡ q
          → aftermath_of w n z ≡ cond q (aftermath_of (dc_done j r c x rows).counters a (dc_done j r c x rows).rows) (aftermath_of (step_done j r c x rows).counters (cond (accepts r) x a) (step_done j r c x rows).rows)
          → Holds k w n b held s v u
      go true p q =
          let en : n ≡ a = ap (λ (y : Aftermath). y.accepted) q in
          rw en (next_dc (dc_phase _ p) (ap (λ (y : Aftermath). written_of y.counters y.rows) q) g l)
      go false p q = next_step (λ h. false≢true (sym p ∙ ap is_dc h)) n (ap (λ (y : Aftermath). written_of y.counters y.rows) q) (ap (λ (y : Aftermath). y.accepted) q) g l
