-- A whole call, DC or transient: what is refused, what it answers, and what stands in each lent buffer afterwards. Clients cite Call, call_of, call_in, Result, result_of, run_of and Scratched.
use Rattle.std.specs.Prelude.{ℕ, ◌≡◌, Bool, List, ◌++◌, length, take, drop, Float}
use Rattle.options.specs.declared.Options.{Options}
use Rattle.sheet.specs.Check.{Checked}
use Rattle.std.specs.declared.result.Result.TheVariants.{Ok, Err}
use Rattle.sheet.specs.Check.{number_of, place_of}
use Rattle.checks.specs.declared.Sizes.{Sizes}
use Rattle.checks.specs.Checks.{order, cells, records, checked_of}
use Rattle.steps.specs.declared.Counters.{Counters}
use Rattle.steps.specs.declared.Job.{Job}
use Rattle.steps.specs.Counters.{verdict_of, dc_verdict_of}
use Rattle.machine.specs.State.{Buffers, buffers_of, State}
use Rattle.passes.specs.Attempt.{Circuit, circuit_of}
use Rattle.engine.specs.declared.Input.{Input}
use Rattle.engine.specs.declared.Outcome.{Outcome}
use Rattle.engine.specs.declared.Outcome.TheVariants.{Refused, Ended}
use Rattle.engine.specs.Work.{end_of, behind_in}

-- ---- a call

-- what a caller hands in: the job and its counts, the sheet with its points, the buffers as they are lent, and the elimination matrix, which is scratch
pub record Call : Type 0 where
  pub job : Job
  pub sources : ℕ
  pub sheet : List ℕ
  pub points : List ℕ
  pub elimination : List Float
  pub lent : Buffers

abbrev pub call_of : Options → Bool → ℕ → ℕ → List ℕ → List ℕ → List Float → Buffers → Call
call_of o transient nodes sources sheet points e x =
    record { job = record { options = o; nodes = nodes; transient = transient }; sources = sources; sheet = sheet; points = points; elimination = e; lent = x }

-- the same from what it is called with
abbrev pub call_in : Input → Bool → List Float → Buffers → Call
call_in i transient e x = call_of i.options transient i.nodes i.sources i.sheet.now i.points.now e x

-- the counts of a call and the lengths of what is lent to it
abbrev pub sizes : Call → Sizes
sizes c =
    record {
      nodes = c.job.nodes;
      sources = c.sources;
      sheet = length c.sheet;
      points = length c.points;
      base = length c.lent.base;
      system = length c.lent.system;
      elimination = length c.elimination;
      vector = length c.lent.vector;
      memory = length c.lent.memory;
      rows = length c.lent.rows;
      transient = c.job.transient;
    }

-- clean, or the first refusal of 1 to 10
abbrev pub checked_call : Call → Checked
checked_call c = checked_of c.job.options (sizes c) c.sheet

-- ---- what it answers

-- the answer, and each lent buffer afterwards
pub record Result : Type 0 where
  pub outcome : Outcome
  pub buffers : Buffers

abbrev pub result_of : Outcome → Buffers → Result
result_of r x = record { outcome = r; buffers = x }

-- how counters read when no more passes are given; a run that is still going is 24. Beside them stands the first diode that is behind.
unfoldable pub ending_of : Counters → ℕ → Outcome
ending_of c behind = Ended (record { verdict = verdict_of c; dc = dc_verdict_of c; passes = c.passes; rows = c.rows; end = c.time; behind = behind })

-- "a refusal returns its number and a record place"
unfoldable pub refused_of : Checked → Outcome
refused_of f = Refused (number_of f) (place_of f)

-- the circuit of a call, and the state in which its run ends
abbrev pub circuit : Call → Circuit
circuit c = circuit_of c.job (order (sizes c)) c.sheet c.points

abbrev pub last_of : Call → State
last_of c = end_of (circuit c) (take (records (sizes c)) c.lent.memory) c.lent.rows

-- how it ends
abbrev pub last_ending : Call → Outcome
last_ending c = ending_of (last_of c).counters (behind_in c.job.options c.sheet (last_of c).buffers)

-- "Buffers after a run": the first part of each is given by the last state, and "nothing changes past the lengths named"
abbrev pub laid : Sizes → Buffers → Buffers → Buffers
laid z x y =
    buffers_of
    (x.base ++ drop (cells z) y.base)
    (x.system ++ drop (cells z) y.system)
    (x.vector ++ drop (order z) y.vector)
    (x.memory ++ drop (records z) y.memory)
    x.rows

-- a refusal "changes no buffer"
abbrev pub unless : Checked → Result → Result → Result
unless (Ok u) done kept = done
unless (Err f) done kept = kept

-- the whole
unfoldable pub run_of : Call → Result
run_of c =
    unless (checked_call c)
    (result_of (last_ending c) (laid (sizes c) (last_of c).buffers c.lent))
    (result_of (refused_of (checked_call c)) c.lent)

-- "The elimination matrix is scratch": nothing past its length changes, and nothing at all where the call is refused
pub record Scratched (c : Call) (x : List Float) : Type 0 where
  pub rest : drop (cells (sizes c)) x ≡ drop (cells (sizes c)) c.elimination
  pub kept : (checked_call c ≡ Ok tt → ⊥) → x ≡ c.elimination
