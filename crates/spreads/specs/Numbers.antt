-- The numbers of the answer of a call. Clients cite Numbers and numbers_of.
use Rattle.std.specs.Prelude.{ℕ}
use Rattle.tally.specs.declared.Report.{Report}
use Rattle.spreads.specs.declared.Spread.{Spread}
use Rattle.spreads.specs.declared.Spread.TheVariants.{Refused, Done}
use Rattle.tally.specs.Tally.{nothing}

-- the refusal, 0 if none, and the report, that of no settled run if refused: zeros
pub record Numbers : Type 0 where
  pub refusal : ℕ
  pub report : Report

abbrev pub numbers_of : Spread → Numbers
numbers_of (Refused k) = record { refusal = k; report = nothing }
numbers_of (Done r) = record { refusal = 0; report = r }
