-- A verdict and its number: no two verdicts have one number. Clients cite all that is `pub`. Assumes nothing.
use Rattle.std.specs.Prelude.{ℕ, cond}
use Rattle.std.proofs.Math.Path.{◌≡◌, refl, ap}
use Rattle.std.proofs.Common.{sym, ◌∙◌}
use Rattle.std.proofs.Math.Bool.{false}
use Rattle.std.proofs.Math.Dec.{eqb}
use borrow.Author.Tests.{eqb-false}
use Rattle.numbers.specs.declared.verdict.Verdict.{Verdict}
use Rattle.numbers.specs.declared.verdict.Verdict.TheVariants.{Settled, PassesUsed, Diverged, DiodeCurrent, StepTooSmall, BudgetSpent, NoRoom, SineRefused}
use Rattle.numbers.specs.Verdicts.{passes_used, diverged, diode_current, step_too_small, budget_spent, no_room, sine_refused, number_of}

-- verdicts of different numbers are different
pub differ : {v w : Verdict} → eqb (number_of v) (number_of w) ≡ false → v ≡ w → ⊥
differ h e = eqb-false _ _ h (ap number_of e)

-- the verdict of a number
abbrev named : ℕ → Verdict
named n =
    cond (eqb n passes_used) PassesUsed
    (cond (eqb n diverged) Diverged
    (cond (eqb n diode_current) DiodeCurrent
    (cond (eqb n step_too_small) StepTooSmall
    (cond (eqb n budget_spent) BudgetSpent
    (cond (eqb n no_room) NoRoom
    (cond (eqb n sine_refused) SineRefused
    Settled))))))

named_back : (v : Verdict) → named (number_of v) ≡ v
named_back Settled = refl
named_back PassesUsed = refl
named_back Diverged = refl
named_back DiodeCurrent = refl
named_back StepTooSmall = refl
named_back BudgetSpent = refl
named_back NoRoom = refl
named_back SineRefused = refl

-- and verdicts of one number are one
pub one_verdict : (v w : Verdict) → number_of v ≡ number_of w → v ≡ w
one_verdict v w e = sym (named_back v) ∙ ap named e ∙ named_back w
