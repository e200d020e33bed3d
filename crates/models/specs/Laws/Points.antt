-- A pattern's points one by one: the last of those read from bytes, and the search for the two around a cycle time. Clients cite last_at, further and found. Assumes nothing.
use Rattle.std.specs.Prelude.{ℕ, zero, suc, ◌+◌, ◌≡◌, true, false, List, ◌∷◌, Float}
use Rattle.std.proofs.Common.{◌∙◌, add-zero, arith}
use Rattle.std.specs.Float.Ieee.{lt}
use Rattle.models.specs.declared.vpwl.Point.{Point}
use Rattle.models.specs.Vpwl.{point_at, points_from, last_of, between}

-- the last of the points from number k to number k + n
pub last_at : (s : List ℕ) (k n : ℕ) → last_of (point_at s k) (points_from s (k + 1) n) ≡ point_at s (k + n)
unfolding last_of points_from
last_at s k zero = rw add-zero
last_at s k (suc n) =
    let e : k + 1 + n ≡ k + suc n = omega arith in
    last_at s (k + 1) n ∙ rw e

-- a point below the cycle time is the last one below it so far
pub further : (tc t1 v1 : Float) (p : Point) (ps : List Point) → lt p.time tc ≡ true → between tc t1 v1 (p ∷ ps) ≡ between tc p.time p.level ps
unfolding between
further tc t1 v1 p ps t = rw (t, between)

-- the first point that is not below it ends the search
pub found : (tc t1 v1 : Float) (p : Point) (ps : List Point) → lt p.time tc ≡ false → between tc t1 v1 (p ∷ ps) ≡ record { t1 = t1; v1 = v1; t2 = p.time; v2 = p.level }
unfolding between
found tc t1 v1 p ps t = rw (t, between)
