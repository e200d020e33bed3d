-- The base of a run and the stamping of a pass. Clients cite base_of, linear_of and stamp_of.
use Rattle.std.specs.Prelude.{ℕ, cond, List, eqb, Float}
use Rattle.options.specs.declared.Options.{Options}
use Rattle.loops.specs.Loop.{copied, zeros_like}
use Rattle.groups.specs.declared.Pass.{Pass}
use Rattle.groups.specs.Plain.{based_on, dependent_of}
use Rattle.groups.specs.Storage.{storage_of}
use Rattle.groups.specs.Sources.{Driven, driven_of, independent_of}
use Rattle.groups.specs.Diodes.{Stamped, stamped_of, diodes_of}

-- "Base: I, R, V in list order", over zeros
unfoldable pub base_of : ℕ → ℕ → List ℕ → List Float → List Float
base_of nodes n sheet base = based_on nodes n sheet (zeros_like base)

-- dependent and storage stamps, over a matrix with the independent ones; x is the last accepted vector, y the memory
unfoldable pub completed : Pass → List ℕ → List Float → List Float → List Float → List Float
completed p sheet x y m = storage_of p x y sheet (dependent_of p.nodes p.order sheet m)

-- what a pass stamps before its diodes: over a copy of the base, until a sine ends it by 26. The last solved vector has no share in it, nor has the memory but for the currents of inductors,
-- which no diode changes, so that passes of one step have it in common.
unfoldable pub linear_of : Pass → List ℕ → List ℕ → List Float → List Float → List Float → List Float → Driven
linear_of p sheet points base x y m =
    let a = independent_of p sheet points (copied base m) in
    cond (eqb a.code 0) (driven_of 0 (completed p sheet x y a.matrix)) a

-- "Each pass adds independent, dependent, storage (transient) and diode stamps", and inductors are stamped at DC too, until one ends it by 26 or 22; v is the last solved vector
unfoldable pub stamp_of : Options → Pass → List ℕ → List ℕ → List Float → List Float → List Float → List Float → List Float → Stamped
stamp_of o p sheet points base x v y m =
    let l = linear_of p sheet points base x y m in
    cond (eqb l.code 0) (diodes_of o sheet p.order v l.matrix y) (stamped_of l.code l.matrix y)
