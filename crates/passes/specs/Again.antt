-- What a pass may use again of the pass before it. Clients of the crate need none of it: the contracts of its inner functions cite it.
use Rattle.std.specs.Prelude.{ℕ, ◌≤◌, ◌≡◌, Bool, true, false, cond, not, ◌&&◌, List, eqb, length, Float}
use Rattle.numbers.specs.Limits.{most_records}
use Rattle.numbers.specs.Verdicts.{diode_current}
use Rattle.convergence.specs.Convergence.{convergence_of}
use Rattle.sheet.specs.Check.{records_of}
use Rattle.groups.specs.Sources.{Driven, driven_of}
use Rattle.groups.specs.Diodes.{diodes_of}
use Rattle.groups.specs.Listed.{Listed}
use Rattle.groups.specs.Storage.{taken_of}
use Rattle.groups.specs.Stamping.{linear_of}
use Rattle.solve.specs.Solve.{solution}
use Rattle.steps.specs.declared.Counters.{Counters}
use Rattle.steps.specs.declared.Job.{Job}
use Rattle.steps.specs.declared.Report.{Report}
use Rattle.steps.specs.declared.Report.TheVariants.{Diode, Sine}
use Rattle.steps.specs.Control.{report_of}
use Rattle.machine.specs.State.{Tried, tried_of}
use Rattle.machine.specs.Machine.{before, reported, takes}
use Rattle.passes.specs.Attempt.{Circuit, pass_of, solved_from}

-- what a pass stamps before its diodes, at the counters c, the accepted vector a, the base b and the memory y
abbrev pub linear_at : Circuit → Counters → List Float → List Float → List Float → Driven
linear_at k c a b y = linear_of (pass_of k.job k.order c) k.sheet k.points b a y b

-- the report on a pass that was not stamped whole
unfoldable pub failure_of : ℕ → Report
failure_of k = cond (eqb k diode_current) Diode Sine

-- a pass from the matrix m on that was stamped before its diodes
unfoldable pub finished : Job → Bool → List ℕ → List Float → List Float → List Float → List Float → Tried
finished j first sheet m system vector memory =
    let a = solved_from (length vector) (diodes_of j.options sheet (length vector) vector m memory) system vector in
    tried_of (reported a.fault (report_of (convergence_of a.vector (before first vector) j.nodes j.options))) a.system a.vector a.memory

-- the pass to come is stamped as the last one was: it is not the first of DC or of its step, nor the first after a cut
unfoldable pub alike : Counters → Bool
alike c = not c.first && not (eqb c.count 0)

-- nothing is held: so it is in a circuit without diodes
abbrev pub bare : ℕ → Bool
bare held = eqb held 0

-- the places are those of the diodes, and a matrix of `held` numbers fits: the base's length, or nothing where there is no diode
pub record Holder (sheet places : List ℕ) (base held : ℕ) : Type 0 where
  pub listed : Listed sheet (length places) places
  pub none : bare held ≡ true → (length places ≡ 0) × (records_of sheet ≤ most_records)
  pub long : bare held ≡ false → held ≡ base

-- what the last pass left: in a circuit without diodes the whole of it, else the part before the diodes
pub record Holds (k : Circuit) (c : Counters) (a base held system vector memory : List Float) : Type 0 where
  pub whole : bare (length held) ≡ true → (linear_at k c a base memory ≡ driven_of 0 system) × (vector ≡ solution k.order system)
  pub part : bare (length held) ≡ false → linear_at k c a base memory ≡ driven_of 0 held

-- a pass can use it, where the one before was stamped alike (`again`)
pub record Usable (k : Circuit) (places : List ℕ) (again : Bool) (c : Counters) (a base held system vector memory : List Float) : Type 0 where
  pub holder : Holder k.sheet places (length base) (length held)
  pub later : again ≡ true → c.first ≡ false
  pub holds : again ≡ true → Holds k c a base held system vector memory

-- the memory after a pass of the counters c with the report r, from the vector v and the memory y that it left: where the vector is taken, inductors have taken their currents
unfoldable pub memory_after : Job → Report → Counters → List ℕ → List Float → List Float → List Float
memory_after j r c sheet v y = cond (takes j c r) (taken_of (pass_of j (length v) c) sheet v y) y
