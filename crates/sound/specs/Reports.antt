-- The two reports with the rows of their sums. Clients cite Summed, summed_of, reports_of and both_over. Definitions only.
use Rattle.std.specs.Prelude.{ℕ, List, ◌++◌, drop, Float}
use Rattle.numbers.specs.Limits.{sum_limbs}
use Rattle.tally.specs.declared.Report.{Report}
use Rattle.tally.specs.Tally.{totals_over}
use Rattle.sound.specs.declared.reports.Reports.{Reports}

abbrev pub reports_of : Report → Report → Reports
reports_of settled sound = record { settled = settled; sound = sound }

pub record Summed : Type 0 where
  pub reports : Reports
  pub plus : List ℕ
  pub minus : List ℕ
  pub «sound-plus» : List ℕ
  pub «sound-minus» : List ℕ

abbrev pub summed_of : Reports → List ℕ → List ℕ → List ℕ → List ℕ → Summed
summed_of r p m sp sm = record { reports = r; plus = p; minus = m; «sound-plus» = sp; «sound-minus» = sm }

-- over the jobs whose own number is 0, and over those whose cause is 0: nothing past the limbs changes
abbrev pub both_over : (ℕ → ℕ) → (ℕ → ℕ) → (ℕ → Float) → ℕ → List ℕ → List ℕ → List ℕ → List ℕ → Summed
both_over number cause value jobs p m sp sm =
    let all = totals_over number value jobs in
    let sound = totals_over cause value jobs in
    summed_of (reports_of all.report sound.report)
    (all.plus ++ drop sum_limbs p)
    (all.minus ++ drop sum_limbs m)
    (sound.plus ++ drop sum_limbs sp)
    (sound.minus ++ drop sum_limbs sm)
