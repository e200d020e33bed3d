-- `engine::dc_operating_point` meets its contract.
use mathlib.Core.Path.{◌≡◌, refl}
use mathlib.Core.List.{List, [], ◌∷◌}
use native.Mathlib.Omega.{arith}
use lib.ListN.{length}
use lib.Ieee.{Float}
use Rattle.engine.proofs.dc_operating_point.Goals as goal

empty : (w : List Float) → length w ≡ 0 → w ≡ []
empty [] h = refl
empty (x ∷ w) h = absurd (omega (arith, h))

pub returns : goal.returns
returns c =
    let x = c.analysis in
    record { all = rw (empty x.new.rows x.auto.rows) at x.ensures.all; scratch = x.ensures.scratch }
