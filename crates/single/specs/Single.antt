-- One job by itself: the engine's own DC run on its sheet, with buffers that hold zeros, the memory among them. Clients cite Mark, dc_call, Marked, marked_of, marked_run, Single, single_of, alone, single and job_sizes.
use Rattle.std.specs.Prelude.{ℕ, ◌+◌, ◌*◌, ◌/◌, false, List, [], length, Float}
use Rattle.loops.specs.Loop.{zeros_like}
use Rattle.options.specs.declared.Options.{Options}
use Rattle.sheet.specs.Record.{record_bytes}
use Rattle.checks.specs.declared.Sizes.{Sizes}
use Rattle.machine.specs.State.{Buffers, buffers_of}
use Rattle.engine.specs.declared.Outcome.{Outcome}
use Rattle.engine.specs.Work.{zeros}
use Rattle.engine.specs.Engine.{Call, call_of, Result, run_of}
use Rattle.engine.specs.Numbers.{numbers_of, number_of}
use Rattle.single.specs.declared.Mark.{Mark}

abbrev pub mark_as : ℕ → ℕ → ℕ → ℕ → Mark
mark_as number place passes behind = record { number = number; place = place; passes = passes; behind = behind }

-- "A job refused by 6 to 10 is counted under its number, with 0 passes"
unfoldable pub mark_of : Outcome → Mark
mark_of r = mark_as (number_of r) (numbers_of r).place (numbers_of r).passes (numbers_of r).behind

-- what a job makes: what is written down for it, its vector, and the last system stamped whole
pub record Single : Type 0 where
  pub mark : Mark
  pub vector : List Float
  pub system : List Float

abbrev pub single_of : Mark → List Float → List Float → Single
single_of m v s = record { mark = m; vector = v; system = s }

abbrev pub single_in : Result → Single
single_in x = single_of (mark_of x.outcome) x.buffers.vector x.buffers.system

-- a DC call: options and counts, sheet and points, and what is lent: base, system, elimination, vector, memory
abbrev pub dc_call : Options → ℕ → ℕ → List ℕ → List ℕ → List Float → List Float → List Float → List Float → List Float → Call
dc_call o nodes sources sheet points b s e v y = call_of o false nodes sources sheet points e (buffers_of b s v y [])

-- ---- what a call of `run_alone` leaves

-- the same call with zeros in its system, its vector and its memory: so the engine is called
abbrev pub cleared : Call → Call
cleared c =
    record {
      job = c.job;
      sources = c.sources;
      sheet = c.sheet;
      points = c.points;
      elimination = c.elimination;
      lent = buffers_of c.lent.base (zeros_like c.lent.system) (zeros_like c.lent.vector) (zeros_like c.lent.memory) c.lent.rows;
    }

-- what is written down, and each lent buffer afterwards
pub record Marked : Type 0 where
  pub mark : Mark
  pub buffers : Buffers

abbrev pub marked_of : Mark → Buffers → Marked
marked_of m x = record { mark = m; buffers = x }

unfoldable pub marked_run : Call → Marked
marked_run c = marked_of (mark_of (run_of (cleared c)).outcome) (run_of (cleared c)).buffers

-- ---- a job by itself: it does not depend on what stood in any buffer

-- the same call with zeros in every buffer
abbrev pub zeroed : Buffers → Buffers
zeroed x = buffers_of (zeros_like x.base) (zeros_like x.system) (zeros_like x.vector) (zeros_like x.memory) (zeros_like x.rows)

abbrev pub fresh : Call → Call
fresh c = record { job = c.job; sources = c.sources; sheet = c.sheet; points = c.points; elimination = c.elimination; lent = zeroed c.lent }

-- what the engine makes of it then. A refused run leaves its vector and its system, so that they are zeros
unfoldable pub alone : Call → Single
alone c = single_in (run_of (fresh c))

-- the call of one job: each buffer is as long as it must be
abbrev pub job_call : Options → ℕ → ℕ → List ℕ → List ℕ → Call
job_call o nodes sources sheet points =
    let n = nodes + sources in
    let m = zeros (n * (n + 1)) in
    dc_call o nodes sources sheet points m m m (zeros n) (zeros (length sheet / record_bytes))

-- one job by itself
unfoldable pub single : Options → ℕ → ℕ → List ℕ → List ℕ → Single
single o nodes sources sheet points = alone (job_call o nodes sources sheet points)

-- the sizes of such a call with sheet and points of so many bytes
abbrev pub job_sizes : ℕ → ℕ → ℕ → ℕ → Sizes
job_sizes nodes sources sheet points =
    let n = nodes + sources in
    record {
      nodes = nodes;
      sources = sources;
      sheet = sheet;
      points = points;
      base = n * (n + 1);
      system = n * (n + 1);
      elimination = n * (n + 1);
      vector = n;
      memory = sheet / record_bytes;
      rows = 0;
      transient = false;
    }
