-- The counters' small changes, and how they are read. There is no record update in antt, so each change names all ten fields, once, here.
use Rattle.std.specs.Prelude.{ℕ, ◌+◌, Bool, true, false, cond, ltb, Float}
use Rattle.num.specs.Floats.{nought}
use Rattle.steps.specs.declared.Counters.{Counters}
use Rattle.numbers.specs.declared.verdict.Verdict.{Verdict}
use Rattle.numbers.specs.declared.verdict.Verdict.TheVariants.{Settled, BudgetSpent}
use Rattle.steps.specs.declared.Phase.TheVariants.{Dc, Transient, Ended}
use Rattle.steps.specs.Phases.{is_dc, is_live}

-- the largest number of 64 bits
abbrev pub top : ℕ
top = 18446744073709551615

-- one more, as long as there is one: no run comes near the top, and counters of any bits are safe
unfoldable pub next : ℕ → ℕ
next n = cond (ltb n top) (n + 1) n

-- a run that is to begin: DC, whose first pass compares with zeros. The verdicts stand for nothing yet.
abbrev pub started : Counters
started = record { phase = Dc; verdict = Settled; dc = Settled; first = true; cut = false; count = 0; rows = 0; passes = 0; time = nought; step = nought }

-- one pass more is solved
abbrev pub counted : Counters → Counters
counted c = record { phase = c.phase; verdict = c.verdict; dc = c.dc; first = false; cut = c.cut; count = next c.count; rows = c.rows; passes = next c.passes; time = c.time; step = c.step }

-- the run has ended with the verdict v
abbrev pub ended : Verdict → Counters → Counters
ended v c = record { phase = Ended; verdict = v; dc = c.dc; first = c.first; cut = c.cut; count = c.count; rows = c.rows; passes = c.passes; time = c.time; step = c.step }

-- DC's verdict is v
abbrev pub with_dc : Verdict → Counters → Counters
with_dc v c = record { phase = c.phase; verdict = c.verdict; dc = v; first = c.first; cut = c.cut; count = c.count; rows = c.rows; passes = c.passes; time = c.time; step = c.step }

-- the transient begins at time 0 with this step
abbrev pub begun : Float → Counters → Counters
begun d c = record { phase = Transient; verdict = c.verdict; dc = c.dc; first = c.first; cut = c.cut; count = c.count; rows = c.rows; passes = c.passes; time = nought; step = d }

-- a step begins: its first pass compares with zeros
abbrev pub anew : Counters → Counters
anew c = record { phase = c.phase; verdict = c.verdict; dc = c.dc; first = true; cut = false; count = 0; rows = c.rows; passes = c.passes; time = c.time; step = c.step }

-- the step was cut: its count starts again
abbrev pub again : Counters → Counters
again c = record { phase = c.phase; verdict = c.verdict; dc = c.dc; first = c.first; cut = true; count = 0; rows = c.rows; passes = c.passes; time = c.time; step = c.step }

abbrev pub with_step : Float → Counters → Counters
with_step d c = record { phase = c.phase; verdict = c.verdict; dc = c.dc; first = c.first; cut = c.cut; count = c.count; rows = c.rows; passes = c.passes; time = c.time; step = d }

abbrev pub with_time : Float → Counters → Counters
with_time t c = record { phase = c.phase; verdict = c.verdict; dc = c.dc; first = c.first; cut = c.cut; count = c.count; rows = c.rows; passes = c.passes; time = t; step = c.step }

-- one row more is written
abbrev pub written : Counters → Counters
written c = record { phase = c.phase; verdict = c.verdict; dc = c.dc; first = c.first; cut = c.cut; count = c.count; rows = next c.rows; passes = c.passes; time = c.time; step = c.step }

-- ---- how counters are read

-- the run wants another pass
abbrev pub going : Counters → Bool
going c = is_live c.phase

-- the verdict when no more passes are given: 24 is a run that is still going
unfoldable pub verdict_of : Counters → Verdict
verdict_of c = cond (going c) BudgetSpent c.verdict

-- and DC's verdict
unfoldable pub dc_verdict_of : Counters → Verdict
dc_verdict_of c = cond (is_dc c.phase) BudgetSpent c.dc
