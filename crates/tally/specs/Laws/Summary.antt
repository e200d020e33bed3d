-- What the report tells, as one theorem for any numbers and values: the settled are counted, the smallest and the largest are settled jobs' own, the rows are the exact sum, and all is zero where none settled.
-- Clients cite Summary and summary. Assumes that a settled job's value is a finite binary64.
use Rattle.std.specs.Prelude.{ℕ, ◌^◌, ◌≤◌, ◌<◌, ◌≡◌, Float, replicate}
use Rattle.std.proofs.Common.{ap, ◌∙◌}
use Rattle.numbers.specs.Limits.{sum_limbs}
use Rattle.numbers.specs.Verdicts.{settled}
use Rattle.exact.specs.Net.{net}
use Rattle.exact.specs.Limbs.{limbs_of}
use Rattle.exact.specs.Kept.{held}
use Rattle.exact.specs.Laws.Limbs.{zeros}
use Rattle.exact.specs.Laws.Sums.{Factor, not_cut}
use Rattle.tally.specs.Tally.{how_many, nothing, sum_of, net_sum, Totals, totals_of, totals_over}
use Rattle.tally.specs.Laws.Report.{settled_many, Extremes, extremes}
use Rattle.tally.specs.Laws.Sum.{kept_sums, net_sum_lem, none_settled}

module _ (number : ℕ → ℕ) (value : ℕ → Float) (jobs : ℕ) where
  -- a settled job's value is a finite binary64
  abbrev pub Sound : Type 0
  Sound = (j : ℕ) → j < jobs → number j ≡ settled → Factor (value j)

  pub record Summary (t : Totals) : Type 0 where
    -- so many settled
    pub counted : t.report.settled ≡ how_many number jobs settled
    -- the smallest and the largest are settled jobs' own, and the earliest on a tie
    pub extremes : Extremes number value jobs t.report
    -- each row stands for its side of the sum, with nothing cut off
    pub sides : held t.plus t.minus ≡ sum_of number value jobs
    -- and `plus` less `minus` is the sum of the settled jobs' values
    pub sum : net (held t.plus t.minus) ≡ net_sum number value jobs
    -- "With no settled run, smallest, largest and sum are 0"
    pub none : ((j : ℕ) → j < jobs → number j ≡ settled → ⊥) → t ≡ totals_of nothing (replicate sum_limbs 0) (replicate sum_limbs 0)

  pub summary : jobs ≤ 2 ^ 27 → Sound → Summary (totals_over number value jobs)
  summary h f =
      let e = sum_of number value jobs in
      let k = not_cut jobs e (limbs_of sum_limbs e.plus) (limbs_of sum_limbs e.minus) (kept_sums number value jobs h f) h in
      let s : held (limbs_of sum_limbs e.plus) (limbs_of sum_limbs e.minus) ≡ e = λ i. record { plus = k.0 i; minus = k.1 i } in
      record {
        counted = settled_many number value jobs;
        extremes = extremes number value jobs (λ i l q. (f i l q).1);
        sides = s;
        sum = ap net s ∙ net_sum_lem number value jobs;
        none = λ n. let z = none_settled number value jobs n in rw (z.0, z.1, zeros sum_limbs);
      }
