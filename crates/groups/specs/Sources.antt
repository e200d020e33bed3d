-- The independent sources: Isin, Vsin and Vpwl at the time of a pass. A sine that is refused ends the stamping. Clients cite Driven and independent_of.
use Rattle.std.specs.Prelude.{ℕ, cond, List, eqb, Option, Some, None, Float}
use Rattle.std.specs.Float.Ieee as Ieee
use Rattle.std.specs.Float.{binary64}
use Rattle.numbers.specs.Verdicts.{sine_refused}
use Rattle.num.specs.Floats.{nought}
use Rattle.loops.specs.Loop.{turns}
use Rattle.sheet.specs.declared.Element.{Element}
use Rattle.sheet.specs.declared.Element.TheVariants.{R, I, «V», D, Isin, Vsin, Vpwl, C, Vcvs, Vccs, L}
use Rattle.sheet.specs.Row.{row_of}
use Rattle.sheet.specs.Check.{records_of}
use Rattle.stamps.specs.Write.{Write, stamped}
use Rattle.stamps.specs.Kinds.{current_writes, voltage_writes}
use Rattle.models.specs.Sine.{sine_at}
use Rattle.models.specs.Vpwl.{pattern_of, points_from}
use Rattle.groups.specs.declared.Pass.{Pass}
use Rattle.groups.specs.Records.{element_at, on_record}

-- the matrix so far, and 0 or the verdict of the source that ended the stamping
pub record Driven : Type 0 where
  pub code : ℕ
  pub matrix : List Float

abbrev pub driven_of : ℕ → List Float → Driven
driven_of code m = record { code = code; matrix = m }

-- what a source writes at its level; "26 sine refused by 12"
abbrev pub levelled : ℕ → (Float → List Write) → Option Float → List Float → Driven
levelled n f (Some x) m = driven_of 0 (stamped n (f x) m)
levelled n f None m = driven_of sine_refused m

-- the time at which sources have their level: 0.0 at DC, the end of the step in the transient
abbrev pub source_time : Pass → Float
source_time w = cond w.transient (Ieee.add binary64 w.time w.step) nought

-- one element in the pass w
unfoldable pub driven : Pass → List ℕ → List Float → Element → Driven
driven w points m (Isin p q vo va freq) = levelled w.order (current_writes w.order p.0 q.0) (sine_at vo va freq (source_time w)) m
driven w points m (Vsin p q vo va freq s) = levelled w.order (voltage_writes w.order (row_of w.nodes s) p.0 q.0) (sine_at vo va freq (source_time w)) m
driven w points m (Vpwl p q delay repeat first count s) =
    let v = pattern_of w.pattern_first (points_from points first count) delay repeat (source_time w) in
    driven_of 0 (stamped w.order (voltage_writes w.order (row_of w.nodes s) p.0 q.0 v) m)
driven w points m (R a b x) = driven_of 0 m
driven w points m (I p q x) = driven_of 0 m
driven w points m («V» p q x s) = driven_of 0 m
driven w points m (D p q x y) = driven_of 0 m
driven w points m (C a b x) = driven_of 0 m
driven w points m (Vcvs p q cp cq k s) = driven_of 0 m
driven w points m (Vccs p q cp cq k) = driven_of 0 m
driven w points m (L a b x s) = driven_of 0 m

-- record i; after a verdict nothing more is stamped
unfoldable pub driven_at : Pass → List ℕ → List ℕ → ℕ → Driven → Driven
driven_at w sheet points i x =
    cond (eqb x.code 0) (on_record (driven w points x.matrix) (driven_of 0 x.matrix) (element_at sheet i)) x

-- all of them, in list order
unfoldable pub independent_of : Pass → List ℕ → List ℕ → List Float → Driven
independent_of w sheet points m = turns (records_of sheet) (driven_at w sheet points) (driven_of 0 m)
