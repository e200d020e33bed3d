-- The call from its parts: what the runs leave is what the reports read. Assumes nothing.
use Prim.Native.Nat.{ℕ, ◌+◌, ◌≤◌, ◌<◌}
use mathlib.Core.Path.{◌≡◌, sym, ap, ◌∙◌}
use mathlib.Core.List.{List, ◌++◌}
use lib.ListN.{length, drop}
use lib.Ieee.{Float}
use Rattle.numbers.specs.Limits.{job_causes, sum_limbs}
use Rattle.loops.specs.Each.{each}
use Rattle.loops.specs.Laws.Each.{each_at}
use Rattle.tally.specs.Tally.{number_in, value_in, how_many, totals_over, Summable}
use Rattle.tally.specs.Laws.Same.{counts_same, totals_same}
use Rattle.spreads.specs.Runs.{Table, table_of, table_after}
use Rattle.spreads.specs.Spreads.{number_at, value_at}
use Rattle.spreads.specs.Laws.Refusals.{CallFine}
use Rattle.spreads.proofs.Laws.Jobs.{value_back, value_sound}
use Rattle.sound.specs.declared.reports.Reports.{Reports}
use Rattle.sound.specs.declared.Soundings.TheVariants.{Done}
use Rattle.sound.specs.Reports.{summed_of, reports_of, both_over}
use Rattle.sound.specs.Sound.{results_of, Call, batch_in, lengths, job_of, caused_of, sound_result_of, done_of, ran_left}
use Rattle.sound.proofs.Laws.Causes.{sound_settled}

module _ (c : Call) (v : List Float) (ns cs ps qs rest : List ℕ) (f : CallFine c.options (lengths c))
    (e : table_of v cs ps qs ≡ table_after (caused_of c) (c.nodes + c.sources) c.jobs c.lent.vectors c.lent.causes c.lent.places c.lent.passes)
    (own : ns ≡ each (number_at (job_of c)) c.jobs ++ rest) where
  abbrev n : ℕ
  n = c.nodes + c.sources

  number_same : (j : ℕ) → j < c.jobs → number_in ns j ≡ number_at (job_of c) j
  number_same j h = rw own (each_at (number_at (job_of c)) c.jobs j rest 0 h)

  cause_same : (j : ℕ) → j < c.jobs → number_in cs j ≡ number_at (caused_of c) j
  cause_same j h = ap (λ (x : Table). number_in x.numbers j) e ∙ each_at (number_at (caused_of c)) c.jobs j (drop c.jobs c.lent.causes) 0 h

  value_same : (j : ℕ) → j < c.jobs → value_in n c.unknown v j ≡ value_at c.unknown (job_of c) j
  value_same j h = ap (λ (x : Table). value_in n c.unknown x.vectors j) e ∙ value_back (batch_in c) c.unknown f.jobs.inside j h

  pub settled_readable : c.jobs ≤ length ns → length v ≡ length c.lent.vectors → Summable c.jobs n c.unknown ns v
  settled_readable hn hv =
      record {
        few = f.jobs.few;
        inside = f.jobs.inside;
        «number-room» = hn;
        «vector-room» = rw hv f.vector-room;
        finites = λ j h q. rw (value_same j h) (value_sound (batch_in c) c.unknown f.jobs.inside j (sym (number_same j h) ∙ q)).1;
      }

  pub sound_readable : length cs ≡ length c.lent.causes → length v ≡ length c.lent.vectors → Summable c.jobs n c.unknown cs v
  sound_readable hc hv =
      record {
        few = f.jobs.few;
        inside = f.jobs.inside;
        «number-room» = rw hc f.number-room;
        «vector-room» = rw hv f.vector-room;
        finites = λ j h q. rw (value_same j h) (value_sound (batch_in c) c.unknown f.jobs.inside j (sound_settled (job_of c j) c.tolerances n (sym (cause_same j h) ∙ q))).1;
      }

  pub whole : (r : Reports) (ks p m sp sm : List ℕ)
      → ks ≡ each (how_many (number_in cs) c.jobs) job_causes ++ drop job_causes c.lent.counts
      → summed_of r p m sp sm ≡ both_over (number_in ns) (number_in cs) (value_in n c.unknown v) c.jobs c.lent.plus c.lent.minus c.lent.«sound-plus» c.lent.«sound-minus»
      → sound_result_of (Done r) (results_of v cs ps qs ks p m sp sm) ≡ ran_left c
  whole r ks p m sp sm q t =
      let value = value_at c.unknown (job_of c) in
      let many : each (how_many (number_in cs) c.jobs) job_causes ≡ each (how_many (number_at (caused_of c)) c.jobs) job_causes = counts_same (number_in cs) (number_at (caused_of c)) c.jobs job_causes cause_same in
      let all : totals_over (number_in ns) (value_in n c.unknown v) c.jobs ≡ totals_over (number_at (job_of c)) value c.jobs
      = totals_same (number_in ns) (number_at (job_of c)) (value_in n c.unknown v) value c.jobs number_same value_same in
      let sound : totals_over (number_in cs) (value_in n c.unknown v) c.jobs ≡ totals_over (number_at (caused_of c)) value c.jobs
      = totals_same (number_in cs) (number_at (caused_of c)) (value_in n c.unknown v) value c.jobs cause_same value_same in
      let s : summed_of r p m sp sm ≡ both_over (number_at (job_of c)) (number_at (caused_of c)) value c.jobs c.lent.plus c.lent.minus c.lent.«sound-plus» c.lent.«sound-minus»
      = t ∙ (λ i. summed_of (reports_of (all i).report (sound i).report) ((all i).plus ++ drop sum_limbs c.lent.plus) ((all i).minus ++ drop sum_limbs c.lent.minus) ((sound i).plus ++ drop sum_limbs c.lent.«sound-plus») ((sound i).minus ++ drop sum_limbs c.lent.«sound-minus»)) in
      let k : ks ≡ each (how_many (number_at (caused_of c)) c.jobs) job_causes ++ drop job_causes c.lent.counts = q ∙ ap (λ (x : List ℕ). x ++ drop job_causes c.lent.counts) many in
      λ i. done_of (e i) (k i) (s i)
