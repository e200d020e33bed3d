-- The elements that store energy, C and L: what they stamp, and the currents that inductors take where a vector is taken. Clients cite storage_of and taken_of.
-- Of a pass, x is the last accepted vector, y the memory, whose float i is the last accepted current of the inductor of record i, and v a vector that is taken.
use Rattle.std.specs.Prelude.{ℕ, Bool, cond, not, ◌&&◌, List, [], eqb, get_or, set, Float}
use Rattle.std.specs.Float.{nan}
use Rattle.numbers.specs.Kinds.{capacitor, inductor}
use Rattle.loops.specs.Loop.{turns}
use Rattle.sheet.specs.declared.SourceId.{SourceId}
use Rattle.sheet.specs.declared.Element.{Element}
use Rattle.sheet.specs.declared.Element.TheVariants.{R, I, «V», D, Isin, Vsin, Vpwl, C, Vcvs, Vccs, L}
use Rattle.sheet.specs.Row.{row_of}
use Rattle.sheet.specs.Check.{records_of}
use Rattle.stamps.specs.Write.{Write, stamped}
use Rattle.stamps.specs.Kinds.{capacitor_writes, inductor_writes, short_writes}
use Rattle.models.specs.Capacitor.{companion_of}
use Rattle.models.specs.Inductor.{conductance_of, current_after}
use Rattle.groups.specs.declared.Pass.{Pass}
use Rattle.groups.specs.Records.{element_at, on_record, writes_of, across}

-- ---- stamps

-- a capacitor: in a step from the voltage across it in the last accepted vector; at DC nothing
unfoldable pub capacitor_in : Pass → List Float → ℕ → ℕ → Float → List Write
capacitor_in p x a b value =
    let c = companion_of value (across x a b) p.step in
    cond p.transient (capacitor_writes p.order a b c.g c.i) []

-- an inductor with row s: in a step "a conductance, step over henries, added without inverting, and a current from first node to second equal to the last accepted current"; "at DC it is a short"
unfoldable pub inductor_in : Pass → ℕ → ℕ → ℕ → Float → Float → List Write
inductor_in p s a b henries i = cond p.transient (inductor_writes p.order s a b (conductance_of henries p.step) i) (short_writes p.order s a b)

unfoldable pub storage_writes : Pass → List Float → List Float → ℕ → Element → List Write
storage_writes p x y i (R a b z) = []
storage_writes p x y i (I a b z) = []
storage_writes p x y i («V» a b z s) = []
storage_writes p x y i (D a b z w) = []
storage_writes p x y i (Isin a b z w f) = []
storage_writes p x y i (Vsin a b z w f s) = []
storage_writes p x y i (Vpwl a b z w f k s) = []
storage_writes p x y i (C a b value) = capacitor_in p x a.0 b.0 value
storage_writes p x y i (Vcvs a b ca cb k s) = []
storage_writes p x y i (Vccs a b ca cb k) = []
storage_writes p x y i (L a b henries s) = inductor_in p (row_of p.nodes s) a.0 b.0 henries (get_or y i nan)

-- "Coils are stamped among the storage elements, at DC too": both kinds in list order
unfoldable pub storage_of : Pass → List Float → List Float → List ℕ → List Float → List Float
storage_of p x y sheet m = stamped p.order (writes_of (storage_writes p x y) sheet (records_of sheet)) m

-- ---- currents

-- an inductor's current with the vector v: "that conductance times the new voltage plus the old current"; at DC it is the unknown of its row
unfoldable pub current_in : Pass → List Float → ℕ → ℕ → Float → SourceId → Float → Float
current_in p v a b henries s old = cond p.transient (current_after henries p.step (across v a b) old) (get_or v (row_of p.nodes s) nan)

-- what record i makes of the memory y where v is taken
unfoldable pub with_current : Pass → List Float → ℕ → List Float → Element → List Float
with_current p v i y (R a b z) = y
with_current p v i y (I a b z) = y
with_current p v i y («V» a b z s) = y
with_current p v i y (D a b z w) = y
with_current p v i y (Isin a b z w f) = y
with_current p v i y (Vsin a b z w f s) = y
with_current p v i y (Vpwl a b z w f k s) = y
with_current p v i y (C a b z) = y
with_current p v i y (Vcvs a b ca cb k s) = y
with_current p v i y (Vccs a b ca cb k) = y
with_current p v i y (L a b henries s) = set y i (current_in p v a.0 b.0 henries s (get_or y i nan))

abbrev pub with_current_at : Pass → List ℕ → List Float → ℕ → List Float → List Float
with_current_at p sheet v i y = on_record (with_current p v i y) y (element_at sheet i)

-- the memory once the vector v of the pass p is taken: each inductor has its new current, every other float is as it was
unfoldable pub taken_of : Pass → List ℕ → List Float → List Float → List Float
taken_of p sheet v y = turns (records_of sheet) (with_current_at p sheet v) y

-- ---- for the contracts of inner functions

-- a kind that a pass does not stamp as a storage element
abbrev pub unstored : Bool → ℕ → Bool
unstored transient kind = not (eqb kind inductor) && not (eqb kind capacitor && transient)
