-- With the option on patterns a pass of DC stamps a ramp at its first level: a pattern of finite points whose times rise from 0.0 or above, without delay. Clients cite ramp_in_dc. Assumes nothing.
use Rattle.std.specs.Prelude.{ℕ, suc, ◌≡◌, true, false, List, Float}
use Rattle.num.specs.Floats.{nought}
use Rattle.sheet.specs.declared.NodeId.{NodeId}
use Rattle.sheet.specs.declared.SourceId.{SourceId}
use Rattle.sheet.specs.declared.Element.TheVariants.{Vpwl}
use Rattle.sheet.specs.Row.{row_of}
use Rattle.stamps.specs.Write.{stamped}
use Rattle.stamps.specs.Kinds.{voltage_writes}
use Rattle.models.specs.Vpwl.{point_at, points_from, pattern_of}
use Rattle.models.specs.Laws.Rising.{RisingBytes}
use Rattle.models.specs.Laws.First.{read_zero}
use Rattle.groups.specs.declared.Pass.{Pass}
use Rattle.groups.specs.Sources.{driven_of, source_time, driven}

module _ (w : Pass) (dc : w.transient ≡ false) (first_on : w.pattern_first ≡ true) (points : List ℕ) (first n : ℕ) (rising : RisingBytes points first n) (repeat : Float) where
  -- the level is the first point's, exactly
  level_in_dc : pattern_of w.pattern_first (points_from points first (suc n)) nought repeat (source_time w) ≡ (point_at points first).level
  unfolding pattern_of
  level_in_dc = rw (first_on, dc) (read_zero points first n rising repeat)

  -- so that is what its record stamps
  pub ramp_in_dc : (p q : NodeId) (s : SourceId) (m : List Float)
      → driven w points m (Vpwl p q nought repeat first (suc n) s) ≡ driven_of 0 (stamped w.order (voltage_writes w.order (row_of w.nodes s) p.0 q.0 (point_at points first).level) m)
  unfolding driven
  ramp_in_dc p q s m = rw level_in_dc
