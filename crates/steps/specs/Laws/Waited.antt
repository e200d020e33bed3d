-- What waiting for a diode does to a report: it turns "yes" to "no" or changes nothing. Clients cite all that is `pub`. Assumes nothing.
use Rattle.std.specs.Prelude.{ℕ, Bool}
use Rattle.std.proofs.Math.Path.{◌≡◌, refl}
use Rattle.std.proofs.Common.{arith}
use Rattle.std.proofs.Math.Bool.{true, false, cond}
use borrow.Author.Tests.{eqb-true}
use Rattle.std.proofs.Math.Dec.{eqb}
use Rattle.options.specs.declared.Options.{Options}
use Rattle.options.specs.Switch.{on}
use Rattle.steps.specs.declared.Report.{Report}
use Rattle.steps.specs.declared.Report.TheVariants.{Yes, No, Error, Diode, Sine}
use Rattle.steps.specs.Control.{solved, waited}

-- no other report is "yes"
no_yes : No ≡ Yes → ⊥
no_yes e = let z : ◌≡◌ {A = ℕ} 0 1 = cc in omega arith

module _ (o : Options) (behind : ℕ) where
  abbrev held : Bool → Bool → Report
  held a b = cond a (cond b Yes No) Yes

  -- a pass is solved or not whatever it waits for
  pub waited_solved : (r : Report) → solved (waited o behind r) ≡ solved r
  unfolding waited
  waited_solved Yes = go (on o.catchup) (eqb behind 0)
    where
      go : (a b : Bool) → solved (held a b) ≡ true
      go true true = refl
      go true false = refl
      go false b = refl
  waited_solved No = refl
  waited_solved Error = refl
  waited_solved Diode = refl
  waited_solved Sine = refl

  -- with the option off nothing waits
  pub waited_off : on o.catchup ≡ false → (r : Report) → waited o behind r ≡ r
  unfolding waited
  waited_off h Yes = rw h
  waited_off h No = refl
  waited_off h Error = refl
  waited_off h Diode = refl
  waited_off h Sine = refl

  -- nor where no diode is behind
  pub waited_none : eqb behind 0 ≡ true → (r : Report) → waited o behind r ≡ r
  unfolding waited
  waited_none h Yes = go (on o.catchup)
    where
      go : (a : Bool) → held a (eqb behind 0) ≡ Yes
      go true = rw h
      go false = refl
  waited_none h No = refl
  waited_none h Error = refl
  waited_none h Diode = refl
  waited_none h Sine = refl

  -- only "yes" becomes another report, and that is "no"
  pub waited_held : on o.catchup ≡ true → eqb behind 0 ≡ false → waited o behind Yes ≡ No
  unfolding waited
  waited_held h n = rw (h, n)

  -- "yes" was "yes" before
  pub waited_yes : (r : Report) → waited o behind r ≡ Yes → r ≡ Yes
  unfolding waited
  waited_yes Yes e = refl
  waited_yes No e = e
  waited_yes Error e = e
  waited_yes Diode e = e
  waited_yes Sine e = e

  -- with the option on, "yes" says that no diode is behind
  pub waited_caught : on o.catchup ≡ true → (r : Report) → waited o behind r ≡ Yes → behind ≡ 0
  unfolding waited
  waited_caught h Yes e = go (eqb behind 0) refl (rw h at e)
    where
      go : (b : Bool) → eqb behind 0 ≡ b → cond b Yes No ≡ Yes → behind ≡ 0
      go true q e = eqb-true _ _ q
      go false q e = absurd (no_yes e)
  waited_caught h No e = absurd (no_yes e)
  waited_caught h Error e = absurd (let z : ◌≡◌ {A = ℕ} 0 1 = cc in omega arith)
  waited_caught h Diode e = absurd (let z : ◌≡◌ {A = ℕ} 0 1 = cc in omega arith)
  waited_caught h Sine e = absurd (let z : ◌≡◌ {A = ℕ} 0 1 = cc in omega arith)
