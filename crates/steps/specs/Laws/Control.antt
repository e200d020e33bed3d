-- Laws of the control: how a run may end, and that a fact of the counters which no small change breaks is kept by the whole control.
-- Clients cite Ends, Fails, Closed, dc_keeps and step_keeps, and the laws of `next`. Assumes nothing.
use Rattle.std.specs.Prelude.{ℕ, ◌+◌, ◌≤◌, ◌<◌, Bool, cond, ltb, leb, Float}
use Rattle.std.proofs.Math.Path.{◌≡◌, refl}
use Rattle.std.proofs.Math.Bool.{true, false}
use Rattle.std.proofs.Common.{arith, lt-ltb}
use Rattle.std.specs.Float.Ieee as Ieee
use Rattle.std.specs.Float.Ieee.{binary64}
use Rattle.options.specs.declared.Options.{Options}
use Rattle.steps.specs.declared.Counters.{Counters}
use Rattle.steps.specs.declared.Report.{Report}
use Rattle.steps.specs.declared.Report.TheVariants.{Yes, No, Error, Diode, Sine}
use Rattle.numbers.specs.declared.verdict.Verdict.{Verdict}
use Rattle.numbers.specs.declared.verdict.Verdict.TheVariants.{Settled, PassesUsed, Diverged, DiodeCurrent, StepTooSmall, NoRoom, SineRefused}
use Rattle.steps.specs.Counters.{top, next, counted, ended, with_dc, begun, anew, again, with_step, with_time, written}
use Rattle.steps.specs.Control.{solved, dc_over, dc_after, moved, eased, shortened, step_after}

-- ---- counting

-- below the top, next is one more
pub next_more : (n : ℕ) → n < top → next n ≡ n + 1
unfolding next
next_more n h = rw (lt-ltb n top h)

module _ (n : ℕ) where
  within : (b : Bool) → (n ≤ cond b (n + 1) n) × (cond b (n + 1) n ≤ n + 1)
  within true = (omega arith, omega arith)
  within false = (omega arith, omega arith)

  pub next_least : n ≤ next n
  unfolding next
  next_least = (within (ltb n top)).0

  pub next_most : next n ≤ n + 1
  unfolding next
  next_most = (within (ltb n top)).1

-- ---- how a run may end

-- after a pass that was solved: a DC run (false), and a transient (true)
pub data Ends : Bool → Verdict → Type 0 where
  settles : {t : Bool} → Ends t Settled
  «runs-out» : Ends false PassesUsed
  diverges : {t : Bool} → Ends t Diverged
  shrinks : Ends true StepTooSmall
  fills : Ends true NoRoom

-- in a pass that was not solved
pub data Fails : Verdict → Type 0 where
  «at-diode» : Fails DiodeCurrent
  «at-sine» : Fails SineRefused

-- ---- what no small change breaks

pub record Closed (transient : Bool) (P : Counters → Type 0) : Type 0 where
  pub ends : {v : Verdict} (c : Counters) → Ends transient v → P c → P (ended v c)
  pub dcs : {v : Verdict} (c : Counters) → Ends false v → P c → P (with_dc v c)
  pub begins : (d : Float) (c : Counters) → transient ≡ true → P c → P (begun d c)
  pub news : (c : Counters) → P c → P (anew c)
  pub agains : (c : Counters) → P c → P (again c)
  pub steps : (d : Float) (c : Counters) → P c → P (with_step d c)
  pub times : (t : Float) (c : Counters) → P c → P (with_time t c)
  pub rows : (c : Counters) → P c → P (written c)

module _ (P : Counters → Type 0) (o : Options) where
  either : (b : Bool) (x y : Counters) → P x → P y → P (cond b x y)
  either true x y p q = p
  either false x y p q = q

  over : (tr : Bool) → Closed tr P → {v : Verdict} (c : Counters) → Ends false v → P c → P (dc_over o tr v c)
  unfolding dc_over
  over true k c e p = k.news _ (k.begins _ _ refl (k.dcs c e p))
  over false k c e p = k.ends _ e (k.dcs c e p)

  -- holds after DC's solved pass if it holds of the counted counters
  pub dc_keeps : (tr : Bool) → Closed tr P → (r : Report) (c : Counters) → solved r ≡ true → P (counted c) → P (dc_after o tr r c)
  unfolding dc_after
  dc_keeps tr k Yes c w p = over tr k _ settles p
  dc_keeps tr k No c w p = either (ltb o.itl1 (next c.count)) _ _ (over tr k _ «runs-out» p) p
  dc_keeps tr k Error c w p = over tr k _ diverges p
  dc_keeps tr k Diode c w p = absurd (let z : ◌≡◌ {A = ℕ} 0 1 = cc in omega arith)
  dc_keeps tr k Sine c w p = absurd (let z : ◌≡◌ {A = ℕ} 0 1 = cc in omega arith)

  module _ (k : Closed true P) where
    move : (c : Counters) → P c → P (moved o c)
    unfolding moved
    move c p = either (Ieee.lt o.tstop (Ieee.add binary64 c.time c.step)) _ _ (k.ends _ settles (k.times _ c p)) (k.times _ c p)

    ease : (c : Counters) → P c → P (eased o c)
    unfolding eased
    ease c p = either c.cut _ _ p (either (ltb c.count o.itl3) _ _ (k.steps _ c p) p)

    shorten : (c : Counters) → P c → P (shortened o c)
    unfolding shortened
    shorten c p =
        either (Ieee.lt (Ieee.mul binary64 c.step o.ft) (Ieee.mul binary64 o.tstep o.rmin)) _ _
        (k.ends _ shrinks (move _ (k.steps _ c p)))
        (k.agains _ (k.steps _ c p))

    -- and after a step's solved pass
    pub step_keeps : (r : Report) (c : Counters) → solved r ≡ true → P (counted c) → P (step_after o r c)
    unfolding step_after
    step_keeps Yes c w p = k.news _ (move _ (ease _ p))
    step_keeps No c w p = either (leb o.itl4 (next c.count)) _ _ (shorten _ p) p
    step_keeps Error c w p = k.ends _ diverges (move _ p)
    step_keeps Diode c w p = absurd (let z : ◌≡◌ {A = ℕ} 0 1 = cc in omega arith)
    step_keeps Sine c w p = absurd (let z : ◌≡◌ {A = ℕ} 0 1 = cc in omega arith)
