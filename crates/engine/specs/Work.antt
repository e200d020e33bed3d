-- The work of a run on buffers of the very lengths. Clients cite base_on, end_of and behind_in.
use Rattle.std.specs.Prelude.{ℕ, ◌+◌, ◌*◌, ◌≤◌, ◌≡◌, List, length, replicate, Float}
use Rattle.numbers.specs.Limits.{most_unknowns}
use Rattle.num.specs.Floats.{nought}
use Rattle.options.specs.declared.Options.{Options}
use Rattle.behind.specs.Behind.{behind_number}
use Rattle.steps.specs.declared.Counters.{Counters}
use Rattle.steps.specs.Counters.{started}
use Rattle.groups.specs.Stamping.{base_of}
use Rattle.machine.specs.State.{Buffers, buffers_of, State, state_of}
use Rattle.machine.specs.Machine.{run_for}
use Rattle.passes.specs.declared.Buffers.{Buffers as Lent}
use Rattle.passes.specs.Attempt.{Circuit, attempt_of}
use Rattle.engine.specs.Begin.{forgotten}

-- so many zeros
abbrev pub zeros : ℕ → List Float
zeros k = replicate k nought

-- the base matrix of N rows
abbrev pub base_on : ℕ → ℕ → List ℕ → List Float
base_on nodes n sheet = base_of nodes n sheet (zeros (n * (n + 1)))

-- the state before the first pass: no vector, no system, no row; the memory of each diode and inductor at 0.0
abbrev pub start_of : Circuit → List Float → List Float → State
start_of k memory rows =
    let n = k.order in
    state_of started (zeros n) (buffers_of (base_on k.job.nodes n k.sheet) (zeros (n * (n + 1))) (zeros n) (forgotten k.sheet memory) rows)

-- the state in which the budget leaves the run: "one unit before each pass, DC and transient together"
unfoldable pub end_of : Circuit → List Float → List Float → State
end_of k memory rows = run_for (attempt_of k) k.job k.job.options.budget (start_of k memory rows)

-- the first diode that is behind in the vector and the memory that a run leaves, whatever its verdict: 0 for none, else 1 and the record's place
abbrev pub behind_in : Options → List ℕ → Buffers → ℕ
behind_in o sheet x = behind_number o sheet x.vector x.memory

-- ---- for the contracts of inner functions

-- the lengths of the lent parts
pub record Fit (n base elimination system : ℕ) : Type 0 where
  pub some : 1 ≤ n
  pub small : n ≤ most_unknowns
  pub bases : base ≡ n * (n + 1)
  pub works : elimination ≡ n * (n + 1)
  pub systems : system ≡ n * (n + 1)

abbrev pub FitIn : Lent → Type 0
FitIn w = Fit (length w.vector.now) (length w.base.now) (length w.elimination.now) (length w.system.now)

-- what a run leaves to its caller: the accepted vector is the run's own
pub record Handover : Type 0 where
  pub counters : Counters
  pub behind : ℕ
  pub buffers : Buffers

abbrev pub handover_of : Counters → ℕ → Buffers → Handover
handover_of c b x = record { counters = c; behind = b; buffers = x }

abbrev pub handover : Circuit → State → Handover
handover k s = handover_of s.counters (behind_in k.job.options k.sheet s.buffers) s.buffers
