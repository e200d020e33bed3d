-- At time 0.0 no source ends the stamping, since no sine is refused there; and so in DC a pass is stamped whole, or ended by a diode with 22.
-- Clients cite independent_in_dc, linear_in_dc and stamp_in_dc. Assumes nothing.
use Rattle.std.specs.Prelude.{ℕ, ◌≡◌, ◌⊎◌, false, List, Option, Some, None, Float}
use Rattle.std.proofs.Math.Path.{refl}
use Rattle.std.proofs.Common.{arith, eq-eqb}
use Rattle.numbers.specs.Verdicts.{settled, diode_current}
use Rattle.options.specs.declared.Options.{Options}
use Rattle.loops.specs.Loop.{copied}
use Rattle.loops.specs.Laws.Loop.{turns_inv}
use Rattle.sheet.specs.declared.Element.{Element}
use Rattle.sheet.specs.declared.Element.TheVariants.{R, I, «V», D, Isin, Vsin, Vpwl, C, Vcvs, Vccs, L}
use Rattle.sheet.specs.Check.{records_of}
use Rattle.sheet.specs.Row.{row_of}
use Rattle.stamps.specs.Write.{Write}
use Rattle.stamps.specs.Kinds.{current_writes, voltage_writes}
use Rattle.models.specs.Sine.{sine_at, numbers_of}
use Rattle.models.specs.Laws.SineAtZero.{sine_at_zero}
use Rattle.groups.specs.declared.Pass.{Pass}
use Rattle.groups.specs.Records.{element_at}
use Rattle.groups.specs.Sources.{Driven, driven_of, source_time, levelled, driven, driven_at, independent_of}
use Rattle.groups.specs.Stamping.{linear_of, stamp_of}
use Rattle.groups.specs.Laws.Stamping.{on_record_lem, diodes_fine}

-- ---- the sources

-- nothing ended the stamping
abbrev Whole : Driven → Type 0
Whole x = x.code ≡ 0

level_whole : (n : ℕ) (f : Float → List Write) (l : Option Float) (m : List Float) → (numbers_of l).verdict ≡ settled → Whole (levelled n f l m)
level_whole n f (Some x) m h = refl
level_whole n f None m h = absurd (omega arith)

-- ---- a pass of DC, whose time is 0.0

module _ (w : Pass) (dc : w.transient ≡ false) (points : List ℕ) where
  -- a sine source has its level
  sine_whole : (vo va freq : Float) → (numbers_of (sine_at vo va freq (source_time w))).verdict ≡ settled
  sine_whole vo va freq = rw dc (sine_at_zero vo va freq)

  element_whole : (m : List Float) (e : Element) → Whole (driven w points m e)
  unfolding driven
  element_whole m (Isin p q vo va freq) = level_whole w.order (current_writes w.order p.0 q.0) (sine_at vo va freq (source_time w)) m (sine_whole vo va freq)
  element_whole m (Vsin p q vo va freq s) = level_whole w.order (voltage_writes w.order (row_of w.nodes s) p.0 q.0) (sine_at vo va freq (source_time w)) m (sine_whole vo va freq)
  element_whole m (Vpwl p q delay repeat first count s) = refl
  element_whole m (R p q x) = refl
  element_whole m (I p q x) = refl
  element_whole m («V» p q x s) = refl
  element_whole m (D p q x y) = refl
  element_whole m (C p q x) = refl
  element_whole m (Vcvs p q cp cq x s) = refl
  element_whole m (Vccs p q cp cq x) = refl
  element_whole m (L p q x s) = refl

  record_whole : (sheet : List ℕ) (i : ℕ) (x : Driven) → Whole x → Whole (driven_at w sheet points i x)
  unfolding driven_at
  record_whole sheet i x h = rw (eq-eqb _ _ h) (on_record_lem Whole (driven w points x.matrix) (driven_of 0 x.matrix) (element_whole x.matrix) refl (element_at sheet i))

  -- all sources of a sheet have their levels
  pub independent_in_dc : (sheet : List ℕ) (m : List Float) → (independent_of w sheet points m).code ≡ 0
  unfolding independent_of
  independent_in_dc sheet m = turns_inv Whole (driven_at w sheet points) (records_of sheet) (driven_of 0 m) refl (λ i l x h. record_whole sheet i x h)

module _ (p : Pass) (dc : p.transient ≡ false) (sheet points : List ℕ) (base x : List Float) where
  -- what is stamped before the diodes is whole
  pub linear_in_dc : (y m : List Float) → (linear_of p sheet points base x y m).code ≡ 0
  unfolding linear_of
  linear_in_dc y m = rw (eq-eqb _ _ (independent_in_dc p dc points sheet (copied base m)))

  -- so that only a diode can end the pass
  pub stamp_in_dc : (o : Options) (v y m : List Float) → ((stamp_of o p sheet points base x v y m).code ≡ 0) ⊎ ((stamp_of o p sheet points base x v y m).code ≡ diode_current)
  unfolding stamp_of
  stamp_in_dc o v y m = rw (eq-eqb _ _ (linear_in_dc y m)) (diodes_fine o sheet p.order v (linear_of p sheet points base x y m).matrix y).2
