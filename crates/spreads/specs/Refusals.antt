-- The refusals of the whole call in their order. Clients cite call_refusal and one_job; Laws/Refusals.antt has what holds where nothing is refused.
use Rattle.std.specs.Prelude.{ℕ, ◌+◌, ◌*◌, ◌/◌, ◌%◌, Bool, false, cond, not, ◌||◌, eqb, ltb, leb}
use Rattle.numbers.specs.Limits.{most_jobs, job_numbers, sum_limbs}
use Rattle.numbers.specs.Refusals.{by_order, by_sheet, by_room, by_jobs}
use Rattle.options.specs.declared.Options.{Options}
use Rattle.checks.specs.declared.Sizes.{Sizes}
use Rattle.checks.specs.Checks.{bad_order, sizes_refusal}
use Rattle.spreads.specs.declared.refusals.Lent.{Lent}

-- N
abbrev pub order : Lent → ℕ
order z = z.nodes + z.sources

-- the bytes of each sheet
abbrev pub bytes : Lent → ℕ
bytes z = z.sheets / z.jobs

-- 13: "no job, more than 256, or an unknown outside the vector"
unfoldable pub bad_jobs : ℕ → ℕ → ℕ → ℕ → Bool
bad_jobs jobs unknown nodes sources = eqb jobs 0 || ltb most_jobs jobs || leb (nodes + sources) unknown

-- "2 for uneven sheets too"
abbrev pub uneven : Lent → Bool
uneven z = not (eqb (z.sheets % z.jobs) 0)

-- a single job's part of what is lent. Its vector has its room among the results
abbrev pub one_job : Lent → Sizes
one_job z =
    record {
      nodes = z.nodes;
      sources = z.sources;
      sheet = bytes z;
      points = z.points;
      base = z.base;
      system = z.system;
      elimination = z.elimination;
      vector = order z;
      memory = z.memory;
      rows = 0;
      transient = false;
    }

-- "5 with the result buffers too": a vector and three numbers for each job, 27 counts, two rows of 66 limbs
abbrev pub short_lists : Lent → Bool
short_lists z = ltb z.numbers z.jobs || ltb z.places z.jobs || ltb z.passes z.jobs

abbrev pub short_sums : Lent → Bool
short_sums z = ltb z.counts job_numbers || ltb z.plus sum_limbs || ltb z.minus sum_limbs

unfoldable pub short_results : Lent → Bool
short_results z = ltb z.vectors (z.jobs * order z) || short_lists z || short_sums z

-- 13 first, "then 1 to 5 for the whole call"; 0 where there is none
unfoldable pub call_refusal : Options → Lent → ℕ
call_refusal o z =
    cond (bad_jobs z.jobs z.unknown z.nodes z.sources) by_jobs
    (cond (bad_order z.nodes z.sources) by_order
    (cond (uneven z) by_sheet
    (cond (eqb (sizes_refusal o (one_job z)) 0) (cond (short_results z) by_room 0)
    (sizes_refusal o (one_job z)))))
