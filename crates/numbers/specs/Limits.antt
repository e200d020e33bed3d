-- How much there can be of each.
use Rattle.std.specs.Prelude.{ℕ}

-- N: nodes (ground included) and sources
abbrev pub most_unknowns : ℕ
most_unknowns = 48

-- records of a sheet
abbrev pub most_records : ℕ
most_records = 256

-- points
abbrev pub most_points : ℕ
most_points = 1024

-- ITL1, ITL3 and ITL4
abbrev pub most_passes : ℕ
most_passes = 10000

-- the budget of passes
abbrev pub most_budget : ℕ
most_budget = 1000000

-- jobs of a call of spreads
abbrev pub most_jobs : ℕ
most_jobs = 256

-- words in each of the two rows of an exact sum
abbrev pub sum_limbs : ℕ
sum_limbs = 66

-- the numbers that a job can have, refusals and verdicts, are 0 to 26
abbrev pub job_numbers : ℕ
job_numbers = 27

-- with the causes beyond them they are 0 to 28
abbrev pub job_causes : ℕ
job_causes = 29
