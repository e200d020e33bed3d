-- The numbers of a call's answer. Clients cite Numbers, numbers_of and number_of.
use Rattle.std.specs.Prelude.{ℕ, Float}
use Rattle.num.specs.Floats.{nought}
use Rattle.numbers.specs.Verdicts as verdicts
use Rattle.engine.specs.declared.Outcome.{Outcome}
use Rattle.engine.specs.declared.Outcome.TheVariants.{Refused, Ended}

-- the refusal and the record's place, the run's verdict and its DC part's, the passes solved, the rows written, the time reached; and the first diode that is behind in the last vector, 0 for none, else 1 and its record's place
pub record Numbers : Type 0 where
  pub refusal : ℕ
  pub place : ℕ
  pub verdict : ℕ
  pub dc : ℕ
  pub passes : ℕ
  pub rows : ℕ
  pub end : Float
  pub behind : ℕ

-- "a refusal returns its number and a record place", and has 0 for all else; a run that ended has 0 for these two
abbrev pub numbers_of : Outcome → Numbers
numbers_of (Refused k i) = record { refusal = k; place = i; verdict = 0; dc = 0; passes = 0; rows = 0; end = nought; behind = 0 }
numbers_of (Ended e) = record { refusal = 0; place = 0; verdict = verdicts.number_of e.verdict; dc = verdicts.number_of e.dc; passes = e.passes; rows = e.rows; end = e.end; behind = e.behind }

-- one number for both: the refusal, or the verdict
abbrev pub number_of : Outcome → ℕ
number_of (Refused k i) = (numbers_of (Refused k i)).refusal
number_of (Ended e) = (numbers_of (Ended e)).verdict
