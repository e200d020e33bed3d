-- The diodes: each is linearized at the last solved vector, from its own memory. One whose current is not finite ends the stamping.
-- Clients cite Stamped, stamped_of and diodes_of.
use Rattle.std.specs.Prelude.{ℕ, cond, List, eqb, get_or, set, Option, Some, None, Float}
use Rattle.std.specs.Float.{nan}
use Rattle.numbers.specs.Verdicts.{diode_current}
use Rattle.options.specs.declared.Options.{Options}
use Rattle.loops.specs.Loop.{turns}
use Rattle.sheet.specs.declared.Element.{Element}
use Rattle.sheet.specs.declared.Element.TheVariants.{R, I, «V», D, Isin, Vsin, Vpwl, C, Vcvs, Vccs, L}
use Rattle.sheet.specs.Check.{records_of}
use Rattle.stamps.specs.Write.{stamped}
use Rattle.stamps.specs.Kinds.{diode_writes}
use Rattle.models.specs.declared.diode.Model.{Model}
use Rattle.models.specs.Diode.{linearized}
use Rattle.groups.specs.Records.{element_at, on_record, across}

-- the matrix and the memory so far, and 0 or the verdict that ended the stamping
pub record Stamped : Type 0 where
  pub code : ℕ
  pub matrix : List Float
  pub memory : List Float

abbrev pub stamped_of : ℕ → List Float → List Float → Stamped
stamped_of code m y = record { code = code; matrix = m; memory = y }

-- the diode of record i takes its new voltage into the memory and writes its model; "22 diode current not finite" changes neither
abbrev pub companion : ℕ → ℕ → ℕ → ℕ → Option Model → List Float → List Float → Stamped
companion n i a b (Some l) m y = stamped_of 0 (stamped n (diode_writes n a b l.g l.i) m) (set y i l.memory)
companion n i a b None m y = stamped_of diode_current m y

-- one element, at the last solved vector x
unfoldable pub biased : Options → ℕ → List Float → ℕ → List Float → List Float → Element → Stamped
biased o n x i m y (D p q isat tdegc) = companion n i p.0 q.0 (linearized o isat tdegc (across x p.0 q.0) (get_or y i nan)) m y
biased o n x i m y (R a b v) = stamped_of 0 m y
biased o n x i m y (I p q v) = stamped_of 0 m y
biased o n x i m y («V» p q v s) = stamped_of 0 m y
biased o n x i m y (Isin p q v w z) = stamped_of 0 m y
biased o n x i m y (Vsin p q v w z s) = stamped_of 0 m y
biased o n x i m y (Vpwl p q v w f k s) = stamped_of 0 m y
biased o n x i m y (C a b v) = stamped_of 0 m y
biased o n x i m y (Vcvs p q cp cq k s) = stamped_of 0 m y
biased o n x i m y (Vccs p q cp cq k) = stamped_of 0 m y
biased o n x i m y (L a b v s) = stamped_of 0 m y

-- record i; after a verdict nothing more is stamped, and a diode before the failing one has already taken its new voltage
unfoldable pub biased_at : Options → List ℕ → ℕ → List Float → ℕ → Stamped → Stamped
biased_at o sheet n x i s =
    cond (eqb s.code 0) (on_record (biased o n x i s.matrix s.memory) (stamped_of 0 s.matrix s.memory) (element_at sheet i)) s

-- all of them, in list order
unfoldable pub diodes_of : Options → List ℕ → ℕ → List Float → List Float → List Float → Stamped
diodes_of o sheet n x m y = turns (records_of sheet) (biased_at o sheet n x) (stamped_of 0 m y)
