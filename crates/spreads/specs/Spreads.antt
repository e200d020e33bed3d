-- The whole call: what is refused, what is answered, and what stands in each lent buffer afterwards. Clients cite Results, results_of, Scratch, scratch_of, Batch, batch_of, batch_result_of, spreads_of and ScratchKept.
use Rattle.std.specs.Prelude.{ℕ, ◌+◌, ◌*◌, ◌/◌, ◌≡◌, cond, List, ◌++◌, eqb, length, get_or, drop, Float}
use Rattle.std.specs.Float.{nan}
use Rattle.numbers.specs.Limits.{job_numbers, sum_limbs}
use Rattle.loops.specs.Each.{each}
use Rattle.options.specs.declared.Options.{Options}
use Rattle.sheet.specs.Record.{record_bytes}
use Rattle.single.specs.Single.{Single}
use Rattle.tally.specs.declared.Report.{Report}
use Rattle.spreads.specs.declared.Spread.{Spread}
use Rattle.spreads.specs.declared.Spread.TheVariants.{Refused, Done}
use Rattle.spreads.specs.declared.refusals.Lent.{Lent}
use Rattle.spreads.specs.Runs.{job_at, Table, table_after}
use Rattle.spreads.specs.Refusals.{bytes, call_refusal}
use Rattle.tally.specs.Tally.{how_many, totals_over}

-- ---- a call

-- the buffers in which the results stand: a vector, a number, a place and passes for each job; the counts; the two rows of the sum
pub record Results : Type 0 where
  pub vectors : List Float
  pub numbers : List ℕ
  pub places : List ℕ
  pub passes : List ℕ
  pub counts : List ℕ
  pub plus : List ℕ
  pub minus : List ℕ

abbrev pub results_of : List Float → List ℕ → List ℕ → List ℕ → List ℕ → List ℕ → List ℕ → Results
results_of v ns ps qs cs p m = record { vectors = v; numbers = ns; places = ps; passes = qs; counts = cs; plus = p; minus = m }

-- the buffers that every job uses in turn
pub record Scratch : Type 0 where
  pub base : List Float
  pub system : List Float
  pub elimination : List Float
  pub memory : List Float

abbrev pub scratch_of : List Float → List Float → List Float → List Float → Scratch
scratch_of b s e y = record { base = b; system = s; elimination = e; memory = y }

-- what a caller hands in: options and counts, the sheets end to end with their points, and the buffers as they are lent
pub record Batch : Type 0 where
  pub options : Options
  pub jobs : ℕ
  pub nodes : ℕ
  pub sources : ℕ
  pub unknown : ℕ
  pub sheets : List ℕ
  pub points : List ℕ
  pub scratch : Scratch
  pub lent : Results

abbrev pub batch_of : Options → ℕ → ℕ → ℕ → ℕ → List ℕ → List ℕ → Scratch → Results → Batch
batch_of o jobs nodes sources unknown sheets points x r =
    record { options = o; jobs = jobs; nodes = nodes; sources = sources; unknown = unknown; sheets = sheets; points = points; scratch = x; lent = r }

-- its counts and the lengths of what is lent
abbrev pub lengths : Batch → Lent
lengths c =
    record {
      jobs = c.jobs;
      nodes = c.nodes;
      sources = c.sources;
      unknown = c.unknown;
      sheets = length c.sheets;
      points = length c.points;
      base = length c.scratch.base;
      system = length c.scratch.system;
      elimination = length c.scratch.elimination;
      memory = length c.scratch.memory;
      vectors = length c.lent.vectors;
      numbers = length c.lent.numbers;
      places = length c.lent.places;
      passes = length c.lent.passes;
      counts = length c.lent.counts;
      plus = length c.lent.plus;
      minus = length c.lent.minus;
    }

-- the refusal of the whole call, 0 where there is none
abbrev pub batch_refusal : Batch → ℕ
batch_refusal c = call_refusal c.options (lengths c)

-- ---- what it answers

-- job j of the call, by itself
abbrev pub job_in : Batch → ℕ → Single
job_in c j = job_at c.options c.nodes c.sources (bytes (lengths c)) c.sheets c.points j

-- a job's number, and its value of the chosen unknown
abbrev pub number_at : (ℕ → Single) → ℕ → ℕ
number_at job j = (job j).mark.number

abbrev pub value_at : ℕ → (ℕ → Single) → ℕ → Float
value_at unknown job j = get_or (job j).vector unknown nan

-- the answer, and each lent buffer but the scratch
pub record BatchResult : Type 0 where
  pub answer : Spread
  pub results : Results

abbrev pub batch_result_of : Spread → Results → BatchResult
batch_result_of r x = record { answer = r; results = x }

-- the runs with the report on them; "nothing changes past the lengths named"
abbrev pub done_of : Table → Report → List ℕ → List ℕ → List ℕ → BatchResult
done_of x r cs p m = batch_result_of (Done r) (results_of x.vectors x.numbers x.places x.passes cs p m)

abbrev pub ran_left : Batch → BatchResult
ran_left c =
    let job = job_in c in
    let total = totals_over (number_at job) (value_at c.unknown job) c.jobs in
    done_of (table_after job (c.nodes + c.sources) c.jobs c.lent.vectors c.lent.numbers c.lent.places c.lent.passes)
    total.report
    (each (how_many (number_at job) c.jobs) job_numbers ++ drop job_numbers c.lent.counts)
    (total.plus ++ drop sum_limbs c.lent.plus)
    (total.minus ++ drop sum_limbs c.lent.minus)

-- the whole: a refusal "changes no buffer"
unfoldable pub spreads_of : Batch → BatchResult
spreads_of c = cond (eqb (batch_refusal c) 0) (ran_left c) (batch_result_of (Refused (batch_refusal c)) c.lent)

-- the numbers of a matrix of N rows
abbrev pub matrix_cells : ℕ → ℕ
matrix_cells n = n * (n + 1)

-- "Other buffers are scratch": nothing past their lengths changes, and nothing at all where the call is refused
pub record ScratchKept (c : Batch) (x : Scratch) : Type 0 where
  pub base : drop (matrix_cells (c.nodes + c.sources)) x.base ≡ drop (matrix_cells (c.nodes + c.sources)) c.scratch.base
  pub system : drop (matrix_cells (c.nodes + c.sources)) x.system ≡ drop (matrix_cells (c.nodes + c.sources)) c.scratch.system
  pub elimination : drop (matrix_cells (c.nodes + c.sources)) x.elimination ≡ drop (matrix_cells (c.nodes + c.sources)) c.scratch.elimination
  pub memory : drop (bytes (lengths c) / record_bytes) x.memory ≡ drop (bytes (lengths c) / record_bytes) c.scratch.memory
  pub kept : (batch_refusal c ≡ 0 → ⊥) → x ≡ c.scratch
