-- The attempt of a pass: stamping and solving. It is what the machine of passes is run with. Clients cite Circuit, circuit_of and attempt_of.
use Rattle.std.specs.Prelude.{ℕ, cond, not, List, eqb, Float}
use Rattle.options.specs.Switch.{on}
use Rattle.groups.specs.declared.Pass.{Pass}
use Rattle.groups.specs.Diodes.{Stamped}
use Rattle.groups.specs.Storage.{taken_of}
use Rattle.groups.specs.Stamping.{stamp_of}
use Rattle.solve.specs.Solve.{solution}
use Rattle.steps.specs.declared.Counters.{Counters}
use Rattle.steps.specs.declared.Job.{Job}
use Rattle.steps.specs.Phases.{is_dc}
use Rattle.machine.specs.State.{Solved, Attempted, Attempt}
use Rattle.behind.specs.Behind.{behind_number}

-- what a run stamps from besides its base matrix: the job, and the sheet with its points
pub record Circuit : Type 0 where
  pub job : Job
  -- N: nodes and sources
  pub order : ℕ
  pub sheet : List ℕ
  pub points : List ℕ

abbrev pub circuit_of : Job → ℕ → List ℕ → List ℕ → Circuit
circuit_of j n sheet points = record { job = j; order = n; sheet = sheet; points = points }

-- the pass that is stamped: DC, or a transient's step from its time; either by the option on patterns
abbrev pub pass_of : Job → ℕ → Counters → Pass
pass_of j n c =
    record { nodes = j.nodes; order = n; transient = not (is_dc c.phase); time = c.time; step = c.step; pattern_first = on j.options.pattern_first }

-- what a pass that was stamped as t leaves: where all is stamped, that is the system, and it is solved; a stamp that fails leaves the last system and the last vector.
-- A diode before the failing one has already taken its new voltage.
abbrev pub solved_from : ℕ → Stamped → List Float → List Float → Solved
solved_from n t system vector =
    cond (eqb t.code 0)
    (record { fault = 0; system = t.matrix; vector = solution n t.matrix; memory = t.memory })
    (record { fault = t.code; system = system; vector = vector; memory = t.memory })

-- which diode is behind in what a pass leaves: the vector just solved, and the voltages at which its diodes were linearized. And the memory if that vector is taken: inductors go by the pass as it began, with its own step.
abbrev pub attempted_of : Circuit → Counters → Solved → Attempted
attempted_of k c a =
    record {
      fault = a.fault;
      system = a.system;
      vector = a.vector;
      memory = a.memory;
      behind = behind_number k.job.options k.sheet a.vector a.memory;
      taken = taken_of (pass_of k.job k.order c) k.sheet a.vector a.memory;
    }

-- each pass is stamped over the base, from the accepted vector and its own previous one
unfoldable pub attempt_of : Circuit → Attempt
attempt_of k c accepted x =
    attempted_of k c (solved_from k.order (stamp_of k.job.options (pass_of k.job k.order c) k.sheet k.points x.base accepted x.vector x.memory x.base) x.system x.vector)
