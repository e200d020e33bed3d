-- What a run reads and what is lent to it, as the records of the definitions. Clients cite circuit_in, buffers_in and Kept.
use Rattle.std.specs.Prelude.{ℕ, ◌≡◌, Bool, List, length, Float}
use Rattle.groups.specs.declared.Pass.{Pass}
use Rattle.groups.specs.Sources.{Driven}
use Rattle.groups.specs.Stamping.{linear_of}
use Rattle.steps.specs.declared.Counters.{Counters}
use Rattle.steps.specs.declared.Report.{Report}
use Rattle.machine.specs.State.{Buffers, buffers_of, Tried, tried_of}
use Rattle.passes.specs.declared.Circuit.{Circuit as Read}
use Rattle.passes.specs.declared.Buffers.{Buffers as Lent}
use Rattle.passes.specs.Sized.{Sized}
use Rattle.passes.specs.Attempt.{Circuit, circuit_of}
use Rattle.passes.specs.Again.{Holds, Usable}

-- a circuit with as many unknowns as the vector lent to it has numbers
abbrev pub circuit_in : Read → Lent → Circuit
circuit_in k w = circuit_of k.job (length w.vector.now) k.sheet.now k.points.now

-- the buffers as they stand, with these rows
abbrev pub buffers_in : Lent → List Float → Buffers
buffers_in w rows = buffers_of w.base.now w.system.now w.vector.now w.memory.now rows

-- the same buffers: the base as it was, and each other as long as it was
pub record Kept (new old : Lent) : Type 0 where
  pub base : new.base ≡ old.base
  pub system : new.system.ghost_name ≡ old.system.ghost_name
  pub elimination : new.elimination.ghost_name ≡ old.elimination.ghost_name
  pub vector : new.vector.ghost_name ≡ old.vector.ghost_name
  pub memory : new.memory.ghost_name ≡ old.memory.ghost_name
  pub base_length : length new.base.now ≡ length old.base.now
  pub system_length : length new.system.now ≡ length old.system.now
  pub elimination_length : length new.elimination.now ≡ length old.elimination.now
  pub vector_length : length new.vector.now ≡ length old.vector.now
  pub memory_length : length new.memory.now ≡ length old.memory.now

-- ---- for the contracts of inner functions

-- the lengths are those of a run, with an accepted vector of so many numbers
abbrev pub SizedIn : Lent → ℕ → Type 0
SizedIn w accepted = Sized (length w.vector.now) accepted (length w.base.now) (length w.elimination.now) (length w.system.now)

-- what the last pass left, and where a pass can use it
abbrev pub HoldsIn : Circuit → Counters → List Float → List Float → Lent → Type 0
HoldsIn k c accepted held w = Holds k c accepted w.base.now held w.system.now w.vector.now w.memory.now

abbrev pub UsableIn : Circuit → List ℕ → Bool → Counters → List Float → List Float → Lent → Type 0
UsableIn k places again c accepted held w = Usable k places again c accepted w.base.now held w.system.now w.vector.now w.memory.now

-- nothing but the elimination matrix is another
pub record Aside (new old : Lent) : Type 0 where
  pub kept : Kept new old
  pub base : new.base.now ≡ old.base.now
  pub system : new.system.now ≡ old.system.now
  pub vector : new.vector.now ≡ old.vector.now
  pub memory : new.memory.now ≡ old.memory.now

-- a report with the buffers that were tried
abbrev pub tried_in : Report → Lent → Tried
tried_in r w = tried_of r w.system.now w.vector.now w.memory.now

-- what a pass stamps before its diodes
abbrev pub linear_in : Pass → Read → List Float → Lent → Driven
linear_in p k accepted w = linear_of p k.sheet.now k.points.now w.base.now accepted w.memory.now w.base.now
