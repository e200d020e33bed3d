-- The piecewise-linear source: "Pattern: `evaluate` exactly, float `%` included"; and the rule in its place where the option `pattern_first` is on. Clients cite point_at, points_from, pattern_at, pattern_first_at and pattern_of.
use Rattle.std.specs.Prelude.{ℕ, zero, suc, ◌+◌, ◌*◌, Bool, true, false, not, ◌&&◌, cond, List, [], ◌∷◌, Float}
use Rattle.std.specs.Float.{binary64}
use Rattle.std.specs.Float.Ieee.{rem, lt, le, is_nan}
use Rattle.num.specs.Le.{float_at}
use Rattle.num.specs.Floats.{nought}
use Rattle.models.specs.Signs.{◌⊕◌, ◌⊖◌, ◌⊗◌, ◌⊘◌}
use Rattle.models.specs.declared.vpwl.Point.{Point}
use Rattle.models.specs.declared.vpwl.Segment.{Segment}

-- "Points are 16-byte records: time, level": the point of number k
unfoldable pub point_at : List ℕ → ℕ → Point
point_at s k = record { time = float_at s (16 * k); level = float_at s (16 * k + 8) }

-- "a part of the lent points": n of them, from number k on
unfoldable pub points_from : List ℕ → ℕ → ℕ → List Point
points_from s k zero = []
points_from s k (suc n) = point_at s k ∷ points_from s (k + 1) n

-- the last of p and the points after it
unfoldable pub last_of : Point → List Point → Point
last_of p [] = p
last_of p (q ∷ qs) = last_of q qs

-- which points the cycle time lies between: the last one below it, t1 and v1 so far, and the first that is not; 0.0 where there is none
unfoldable pub between : Float → Float → Float → List Point → Segment
between tc t1 v1 [] = record { t1 = t1; v1 = v1; t2 = nought; v2 = nought }
between tc t1 v1 (p ∷ ps) =
    elim (lt p.time tc) [
      | true ↦ between tc p.time p.level ps
      | false ↦ record { t1 = t1; v1 = v1; t2 = p.time; v2 = p.level }
    ]

-- x, or 0.0 where x is a NaN
unfoldable pub or_zero : Float → Float
or_zero x = cond (is_nan x) nought x

-- the level at the cycle time on the line through the two points
unfoldable pub level_on : Segment → Float → Float
level_on s tc =
    let gradient = or_zero ((s.v2 ⊖ s.v1) ⊘ (s.t2 ⊖ s.t1)) in
    gradient ⊗ (tc ⊖ s.t1) ⊕ s.v1

-- not repeating, and off the end of the pattern
abbrev pub past_end : Float → Float → Float → Bool
past_end repeat t end = lt repeat nought && lt end t

-- the level at time t of the points ps, of which l is the last: past the end the last level, at a cycle time below zero 0.0, else on the line
unfoldable pub level_at : List Point → Point → Float → Float → Float → Float
level_at ps l delay repeat t =
    let tc = rem binary64 (t ⊖ delay) l.time in
    cond (past_end repeat t (delay ⊕ l.time)) l.level
    (cond (lt tc nought) nought
    (level_on (between tc nought nought ps) tc))

-- the level of a pattern at time t; of one without points 0.0
unfoldable pub pattern_at : List Point → Float → Float → Float → Float
pattern_at [] delay repeat t = nought
pattern_at (p ∷ ps) delay repeat t = level_at (p ∷ ps) (last_of p ps) delay repeat t

-- ---- with the option `pattern_first`: "A pattern that starts away from zero"

-- no point follows the first
abbrev pub single : List Point → Bool
single [] = true
single (q ∷ qs) = false

-- not repeating, and at or past the end of the pattern
abbrev pub at_end : Float → Float → Float → Bool
at_end repeat t end = lt repeat nought && le end t

-- "no points, or a time before the delay: 0; without repeat and at or past its end: the last level; a single point: its level; a cycle time not above the first point's: the first level; then as before".
-- A cycle time that is no number, as for a last time of 0.0, is not above anything.
unfoldable pub pattern_first_at : List Point → Float → Float → Float → Float
pattern_first_at [] delay repeat t = nought
pattern_first_at (p ∷ ps) delay repeat t =
    let l = last_of p ps in
    let tc = rem binary64 (t ⊖ delay) l.time in
    cond (lt t delay) nought
    (cond (at_end repeat t (delay ⊕ l.time)) l.level
    (cond (single ps) p.level
    (cond (not (lt p.time tc)) p.level
    (pattern_at (p ∷ ps) delay repeat t))))

-- the level of a pattern, by the option
unfoldable pub pattern_of : Bool → List Point → Float → Float → Float → Float
pattern_of on ps delay repeat t = cond on (pattern_first_at ps delay repeat t) (pattern_at ps delay repeat t)
