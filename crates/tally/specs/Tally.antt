-- The report: of each job its number and its value of the chosen unknown. Clients cite how_many, summed, with_job, report_over, sum_of, net_sum, counts_after, counts_to and totals_after.
use Rattle.std.specs.Prelude.{ℕ, zero, suc, ◌+◌, ◌*◌, ◌/◌, ◌≤◌, ◌<◌, ◌≡◌, Bool, true, false, cond, not, ◌&&◌, ◌||◌, List, ◌++◌, T, eqb, ltb, leb, length, get_or, drop, ℤ, pos, ◌+ℤ◌, Float}
use Rattle.std.specs.Float.Ieee as Ieee
use Rattle.std.specs.Float.{nan}
use Rattle.std.specs.Float.Ieee.Scale.{finite}
use Rattle.num.specs.Floats.{nought}
use Rattle.numbers.specs.Limits.{most_jobs, job_numbers, sum_limbs}
use Rattle.numbers.specs.Verdicts.{settled}
use Rattle.loops.specs.Each.{each}
use Rattle.loops.specs.Loop.{turns}
use Rattle.exact.specs.Exact.{Exact, none as noSum, whole, added}
use Rattle.num.specs.Literals.{one}
use Rattle.exact.specs.Net.{signed}
use Rattle.exact.specs.Kept.{kept_of}
use Rattle.exact.specs.Limbs.{limbs_of}
use Rattle.tally.specs.declared.Report.{Report}
use Rattle.tally.specs.declared.Peak.{Peak}

-- job j's number in a list of them, and its value in vectors of N floats each
abbrev pub number_in : List ℕ → ℕ → ℕ
number_in numbers j = get_or numbers j 0

abbrev pub value_in : ℕ → ℕ → List Float → ℕ → Float
value_in n unknown vectors j = get_or vectors (j * n + unknown) nan

-- "runs per verdict": how many of the first jobs have the number k
unfoldable pub how_many : (ℕ → ℕ) → ℕ → ℕ → ℕ
how_many number zero k = 0
how_many number (suc j) k = cond (eqb (number j) k) (how_many number j k + 1) (how_many number j k)

-- f 0 + f 1 + .., n of them: the counts of the first n numbers added up
abbrev pub summed : (ℕ → ℕ) → ℕ → ℕ
summed f zero = 0
summed f (suc n) = summed f n + f n

-- ---- smallest and largest

abbrev pub peak_of : Float → ℕ → Peak
peak_of x j = record { value = x; at = j }

-- "the smallest, the largest (earliest on a tie)": a later job takes the place only if it is below, or above
abbrev pub lower : ℕ → Float → Peak → Peak
lower j x p = cond (Ieee.lt x p.value) (peak_of x j) p

abbrev pub upper : ℕ → Float → Peak → Peak
upper j x p = cond (Ieee.lt p.value x) (peak_of x j) p

abbrev pub reported : ℕ → Peak → Peak → Report
reported count low high = record { settled = count; smallest = low.value; largest = high.value; smallest_at = low.at; largest_at = high.at }

-- "With no settled run, smallest, largest and sum are 0"
abbrev pub nothing : Report
nothing = reported 0 (peak_of nought 0) (peak_of nought 0)

-- one settled job more
unfoldable pub with_job : ℕ → Float → Report → Report
with_job j x r =
    cond (eqb r.settled 0)
    (reported 1 (peak_of x j) (peak_of x j))
    (reported (r.settled + 1) (lower j x (peak_of r.smallest r.smallest_at)) (upper j x (peak_of r.largest r.largest_at)))

-- ---- over the settled jobs, those whose number is 0, of the first so many

abbrev pub report_step : (ℕ → ℕ) → (ℕ → Float) → ℕ → Report → Report
report_step number value j r = cond (eqb (number j) settled) (with_job j (value j) r) r

abbrev pub report_over : (ℕ → ℕ) → (ℕ → Float) → ℕ → Report
report_over number value jobs = turns jobs (report_step number value) nothing

-- "the exact sum over settled runs, kept as the judge keeps sums"
abbrev pub sum_step : (ℕ → ℕ) → (ℕ → Float) → ℕ → Exact → Exact
sum_step number value j e = cond (eqb (number j) settled) (added e (whole (value j))) e

abbrev pub sum_of : (ℕ → ℕ) → (ℕ → Float) → ℕ → Exact
sum_of number value jobs = turns jobs (sum_step number value) noSum

-- the same sum as one whole number, in units of 2 ^ -2148
abbrev pub net_sum : (ℕ → ℕ) → (ℕ → Float) → ℕ → ℤ
net_sum number value zero = pos 0
net_sum number value (suc j) = cond (eqb (number j) settled) (net_sum number value j +ℤ signed (value j)) (net_sum number value j)

-- ---- the report with the two rows of the sum

pub record Totals : Type 0 where
  pub report : Report
  pub plus : List ℕ
  pub minus : List ℕ

abbrev pub totals_of : Report → List ℕ → List ℕ → Totals
totals_of r p m = record { report = r; plus = p; minus = m }

-- over all jobs
abbrev pub totals_over : (ℕ → ℕ) → (ℕ → Float) → ℕ → Totals
totals_over number value jobs =
    totals_of (report_over number value jobs) (limbs_of sum_limbs (sum_of number value jobs).plus) (limbs_of sum_limbs (sum_of number value jobs).minus)

-- a settled job is taken in, and no other
abbrev pub taken : Bool → ℕ → Float → Report → List ℕ → List ℕ → Totals
taken true j x r p m = totals_of (with_job j x r) (kept_of p m x one).plus (kept_of p m x one).minus
taken false j x r p m = totals_of r p m

-- the lists hold the jobs, and a settled job's value is finite
pub record Summable (jobs n unknown : ℕ) (numbers : List ℕ) (vectors : List Float) : Type 0 where
  pub few : jobs ≤ most_jobs
  pub inside : unknown < n
  pub «number-room» : jobs ≤ length numbers
  pub «vector-room» : jobs * n ≤ length vectors
  pub finites : (j : ℕ) → j < jobs → number_in numbers j ≡ settled → T (finite (value_in n unknown vectors j))

-- ---- lists that may not hold the jobs

-- how many of the jobs have each number, put down at the front of a list; nothing is where the lists have no room for the jobs and for the counts
unfoldable pub counts_after : List ℕ → ℕ → List ℕ → List ℕ
counts_after numbers jobs counts =
    cond (leb jobs (length numbers) && leb job_numbers (length counts)) (each (how_many (number_in numbers) jobs) job_numbers ++ drop job_numbers counts) counts

-- the same for each number below so many kinds
unfoldable pub counts_to : ℕ → List ℕ → ℕ → List ℕ → List ℕ
counts_to kinds numbers jobs counts =
    cond (leb jobs (length numbers) && leb kinds (length counts)) (each (how_many (number_in numbers) jobs) kinds ++ drop kinds counts) counts

-- at most 256 jobs, a number for each, n values for each, and the chosen one among them
unfoldable pub holds_jobs : ℕ → ℕ → ℕ → ℕ → ℕ → Bool
holds_jobs jobs n unknown numbers vectors = leb jobs most_jobs && (ltb unknown n && (leb jobs numbers && leb jobs (vectors / n)))

-- the settled jobs' values are finite
abbrev pub finite_step : (ℕ → ℕ) → (ℕ → Float) → ℕ → Bool → Bool
finite_step number value j b = b && (not (eqb (number j) settled) || finite (value j))

abbrev pub all_finite : (ℕ → ℕ) → (ℕ → Float) → ℕ → Bool
all_finite number value jobs = turns jobs (finite_step number value) true

-- the report can be made: `Summable` as a test, and two rows of 66 limbs
unfoldable pub ready : ℕ → ℕ → ℕ → List ℕ → List Float → ℕ → ℕ → Bool
ready jobs n unknown numbers vectors plus minus =
    holds_jobs jobs n unknown (length numbers) (length vectors)
    && (eqb plus sum_limbs && (eqb minus sum_limbs && all_finite (number_in numbers) (value_in n unknown vectors) jobs))

-- the report with the two rows, over these lists; where it cannot be made, none settled and the rows stand
unfoldable pub totals_after : ℕ → ℕ → ℕ → List ℕ → List Float → List ℕ → List ℕ → Totals
totals_after jobs n unknown numbers vectors p m =
    cond (ready jobs n unknown numbers vectors (length p) (length m)) (totals_over (number_in numbers) (value_in n unknown vectors) jobs) (totals_of nothing p m)
