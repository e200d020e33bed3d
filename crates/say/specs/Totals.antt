-- The counts of a call of spreads: which numbers and causes have a line, a job's own number, and what the counts add up to. Clients cite ends_dc, shown, cause_shown, unsound, number_of, count_in, settled_in, number_count and total_of.
use Rattle.std.specs.Prelude.{ℕ, ◌+◌, ◌%◌, ◌^◌, Bool, cond, not, ◌&&◌, ◌||◌, List, ◌==◌, nat_le, slice_index}
use Rattle.numbers.specs.Causes.{behind, rejected}
use Rattle.numbers.specs.Limits.{job_causes}
use Rattle.numbers.specs.Refusals.{by_kind, by_pattern, by_tolerance}
use Rattle.numbers.specs.Verdicts.{settled, passes_used, diode_current, budget_spent}
use Rattle.tally.specs.Tally.{summed}

-- a DC job can be refused by 6 to 10, and end with 0, 20 to 22 or 24
abbrev pub ends_dc : ℕ → Bool
ends_dc k = k == settled || (nat_le by_kind k && nat_le k by_pattern) || (nat_le passes_used k && nat_le k diode_current) || k == budget_spent

-- a number has a record if a DC job can have it, or if a job had it
abbrev pub shown : ℕ → ℕ → Bool
shown k count = ends_dc k || not (count == 0)

-- a cause has a line if a DC job can have it, the judge's causes where tolerances are handed in, or if a job had it
abbrev pub cause_shown : Bool → ℕ → ℕ → Bool
cause_shown judged k count = ends_dc k || k == behind || (judged && (k == by_tolerance || k == rejected)) || not (count == 0)

-- the causes of a settled job that is not sound: the judge refuses, a diode is behind, the judge rejects
abbrev pub unsound : ℕ → Bool
unsound k = k == by_tolerance || k == behind || k == rejected

-- "A job's own number is its cause, and 0 where that is 11, 27 or 28"
abbrev pub number_of : ℕ → ℕ
number_of cause = cond (unsound cause) 0 cause

-- the count of cause k
abbrev pub count_in : List ℕ → ℕ → ℕ
count_in counts k = slice_index counts k

-- the settled jobs: the sound ones, and those with a cause that is no number of their run
abbrev pub settled_in : List ℕ → ℕ
settled_in counts = (((count_in counts settled + count_in counts by_tolerance) % 2 ^ 64 + count_in counts behind) % 2 ^ 64 + count_in counts rejected) % 2 ^ 64

-- how many jobs have number k as their own
abbrev pub number_count : List ℕ → ℕ → ℕ
number_count counts k = cond (k == by_tolerance) 0 (cond (k == settled) (settled_in counts) (count_in counts k))

-- the counts of all causes added up, as far as 64 bits go
abbrev pub total_of : List ℕ → ℕ
total_of counts = summed (count_in counts) job_causes % 2 ^ 64
