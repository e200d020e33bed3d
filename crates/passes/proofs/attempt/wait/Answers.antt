-- `passes::attempt::wait` meets its contract: by what the report was, the option, and whether a diode is behind. Assumes nothing.
use Prim.Native.Nat.{ℕ}
use mathlib.Core.Path.{◌≡◌, refl, sym, ap, ◌∙◌}
use mathlib.Core.Bool.{Bool, true, false, not, ◌||◌, true≢false, false≢true}
use lib.Dec.{eqb}
use borrow.Author.Tests.{eq-eqb, ne_eqb}
use Rattle.options.specs.declared.Options.{Options}
use Rattle.steps.specs.declared.Report.{Report}
use Rattle.steps.specs.declared.Report.TheVariants.{Yes, No, Error, Diode, Sine}
use Rattle.behind.specs.Behind.{behind_number}
use Rattle.steps.specs.Control.{waited}
use Rattle.steps.specs.Laws.Waited.{waited_off, waited_none, waited_held}
use Rattle.machine.specs.Machine.{accepts}
use Rattle.passes.proofs.attempt.wait.Goals as goal

-- only "yes" waits
unmoved : (o : Options) (b : ℕ) (r : Report) → accepts r ≡ false → r ≡ waited o b r
unfolding waited
unmoved o b Yes h = absurd (true≢false h)
unmoved o b No h = refl
unmoved o b Error h = refl
unmoved o b Diode h = refl
unmoved o b Sine h = refl

accepted : (r : Report) → accepts r ≡ true → r ≡ Yes
accepted Yes h = refl
accepted No h = absurd (false≢true h)
accepted Error h = absurd (false≢true h)
accepted Diode h = absurd (false≢true h)
accepted Sine h = absurd (false≢true h)

-- it does not wait
at_once : (o : Options) (b : ℕ) (r : Report) (t f : Bool) → t ≡ accepts r → eqb o.catchup 0 ≡ f → (not t || f) ≡ true → r ≡ waited o b r
at_once o b r t f e g h = go t f e g h
  where
    go : (t f : Bool) → t ≡ accepts r → eqb o.catchup 0 ≡ f → (not t || f) ≡ true → r ≡ waited o b r
    go false f e g h = unmoved o b r (sym e)
    go true true e g h = sym (waited_off o b (ap not g) r)
    go true false e g h = absurd (false≢true h)

-- neither holds
nor : (t f : Bool) → (not t || f) ≡ false → (t ≡ true) × (f ≡ false)
nor true false h = (refl, refl)
nor true true h = absurd (true≢false h)
nor false f h = absurd (true≢false h)

pub returns-then-accepts-o : goal.returns-then-accepts-o
returns-then-accepts-o c = at_once _ _ _ _ _ c.accepts.ensures refl c.if-accepts-o.true

pub returns-then-behind_number-eq0 : goal.returns-then-behind_number-eq0
returns-then-behind_number-eq0 c = sym (waited_none _ _ (eq-eqb _ _ (sym c.behind_number.ensures ∙ c.if-behind_number-eq0.true)) _)

pub returns : goal.returns
returns c =
    let a = c.args in
    let o = a.k.job.options in
    let n = (nor _ _ c.if-accepts-o.false) in
    let y = accepted a.r (sym c.accepts.ensures ∙ n.0) in
    let b = behind_number o a.k.sheet.now a.w.now.vector.now a.w.now.memory.now in
    sym (ap (waited o b) y ∙ waited_held o b (ap not n.1) (ne_eqb _ _ (λ e. c.if-behind_number-eq0.false (c.behind_number.ensures ∙ e))))
