-- The verdicts of a run.
use Rattle.std.specs.Prelude.{ℕ}
use Rattle.numbers.specs.declared.verdict.Verdict.{Verdict}
use Rattle.numbers.specs.declared.verdict.Verdict.TheVariants.{Settled, PassesUsed, Diverged, DiodeCurrent, StepTooSmall, BudgetSpent, NoRoom, SineRefused}

-- the run settled; in a transient: it came to its end
abbrev pub settled : ℕ
settled = 0

-- DC passes used up
abbrev pub passes_used : ℕ
passes_used = 20

-- convergence error
abbrev pub diverged : ℕ
diverged = 21

-- a diode's current is not finite
abbrev pub diode_current : ℕ
diode_current = 22

-- step too small
abbrev pub step_too_small : ℕ
step_too_small = 23

-- budget spent
abbrev pub budget_spent : ℕ
budget_spent = 24

-- no room for the next row
abbrev pub no_room : ℕ
no_room = 25

-- a sine source was refused
abbrev pub sine_refused : ℕ
sine_refused = 26

-- the number of each
abbrev pub number_of : Verdict → ℕ
number_of Settled = settled
number_of PassesUsed = passes_used
number_of Diverged = diverged
number_of DiodeCurrent = diode_current
number_of StepTooSmall = step_too_small
number_of BudgetSpent = budget_spent
number_of NoRoom = no_room
number_of SineRefused = sine_refused
