-- The call from its parts: what the runs leave is what the report reads. Assumes nothing.
use Prim.Native.Nat.{ℕ, ◌+◌, ◌<◌}
use mathlib.Core.Path.{◌≡◌, sym, ap, ◌∙◌}
use mathlib.Core.List.{List, ◌++◌}
use lib.ListN.{length, drop}
use lib.Ieee.{Float}
use Rattle.numbers.specs.Limits.{job_numbers, sum_limbs}
use Rattle.tally.specs.declared.Report.{Report}
use Rattle.spreads.specs.declared.Spread.TheVariants.{Done}
use Rattle.loops.specs.Each.{each}
use Rattle.spreads.specs.Runs.{Table, table_of, table_after}
use Rattle.spreads.specs.Laws.Refusals.{CallFine}
use Rattle.tally.specs.Tally.{number_in, value_in, how_many, Totals, totals_of, totals_over, Summable}
use Rattle.tally.specs.Laws.Same.{counts_same, totals_same}
use Rattle.spreads.proofs.Laws.Jobs.{number_back, value_back, value_sound}
use Rattle.spreads.specs.Spreads.{results_of, Batch, lengths, job_in, number_at, value_at, batch_result_of, done_of, ran_left}

module _ (c : Batch) (v : List Float) (ns ps qs : List ℕ) (f : CallFine c.options (lengths c))
    (e : table_of v ns ps qs ≡ table_after (job_in c) (c.nodes + c.sources) c.jobs c.lent.vectors c.lent.numbers c.lent.places c.lent.passes) where
  abbrev n : ℕ
  n = c.nodes + c.sources

  number_same : (j : ℕ) → j < c.jobs → number_in ns j ≡ number_at (job_in c) j
  number_same j h = ap (λ (x : Table). number_in x.numbers j) e ∙ number_back c j h

  value_same : (j : ℕ) → j < c.jobs → value_in n c.unknown v j ≡ value_at c.unknown (job_in c) j
  value_same j h = ap (λ (x : Table). value_in n c.unknown x.vectors j) e ∙ value_back c c.unknown f.jobs.inside j h

  pub readable : length ns ≡ length c.lent.numbers → length v ≡ length c.lent.vectors → Summable c.jobs n c.unknown ns v
  readable hn hv =
      record {
        few = f.jobs.few;
        inside = f.jobs.inside;
        «number-room» = rw hn f.number-room;
        «vector-room» = rw hv f.vector-room;
        finites = λ j h q. rw (value_same j h) (value_sound c c.unknown f.jobs.inside j (sym (number_same j h) ∙ q)).1;
      }

  pub whole : (r : Report) (cs p m : List ℕ)
      → cs ≡ each (how_many (number_in ns) c.jobs) job_numbers ++ drop job_numbers c.lent.counts
      → totals_of r p m ≡ totals_over (number_in ns) (value_in n c.unknown v) c.jobs
      → batch_result_of (Done r) (results_of v ns ps qs cs (p ++ drop sum_limbs c.lent.plus) (m ++ drop sum_limbs c.lent.minus)) ≡ ran_left c
  whole r cs p m q t =
      let job = job_in c in
      let number = number_in ns in
      let value = value_in n c.unknown v in
      let many : each (how_many number c.jobs) job_numbers ≡ each (how_many (number_at job) c.jobs) job_numbers = counts_same number (number_at job) c.jobs job_numbers number_same in
      let total : totals_over number value c.jobs ≡ totals_over (number_at job) (value_at c.unknown job) c.jobs
      = totals_same number (number_at job) value (value_at c.unknown job) c.jobs number_same value_same in
      let all = t ∙ total in
      let er = ap (λ (x : Totals). x.report) all in
      let ep = ap (λ (x : Totals). x.plus) all in
      let em = ap (λ (x : Totals). x.minus) all in
      let ec = q ∙ ap (λ (x : List ℕ). x ++ drop job_numbers c.lent.counts) many in
      let told_all = totals_over (number_at job) (value_at c.unknown job) c.jobs in
      rw (er, ep, em, ec)
      (ap (λ (x : Table). done_of x told_all.report (each (how_many (number_at job) c.jobs) job_numbers ++ drop job_numbers c.lent.counts) (told_all.plus ++ drop sum_limbs c.lent.plus) (told_all.minus ++ drop sum_limbs c.lent.minus)) e)
