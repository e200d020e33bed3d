-- The numbers of the answer of a call. Clients cite Numbers and numbers_of.
use Rattle.std.specs.Prelude.{ℕ}
use Rattle.tally.specs.Tally.{nothing}
use Rattle.sound.specs.declared.Soundings.{Soundings}
use Rattle.sound.specs.declared.Soundings.TheVariants.{Refused, Done}
use Rattle.sound.specs.declared.reports.Reports.{Reports}
use Rattle.sound.specs.Reports.{reports_of}

-- the refusal, 0 if none, and the two reports, those of no run if refused: zeros
pub record Numbers : Type 0 where
  pub refusal : ℕ
  pub reports : Reports

abbrev pub numbers_of : Soundings → Numbers
numbers_of (Refused k) = record { refusal = k; reports = reports_of nothing nothing }
numbers_of (Done r) = record { refusal = 0; reports = r }
