-- Laws of a pattern's points, as the functions read them: past the end of the bytes a point is (0, 0), and a part is its first point and the rest.
use Prim.Native.Nat.{ℕ, zero, suc, ◌+◌, ◌-◌, ◌*◌, ◌/◌, ◌<◌}
use mathlib.Core.Path.{◌≡◌, refl, sym}
use mathlib.Core.Bool.{true, false, not, cond}
use mathlib.Core.List.{List, ◌∷◌}
use native.Mathlib.Nat.{add-zero}
use native.Mathlib.Omega.{arith}
use borrow.Author.Tests.{ne_eqb}
use lib.ListN.{length}
use lib.Dec.{eqb}
use lib.Ieee.{Float, binary64, rem, lt}
use Rattle.num.specs.Le.{float_at}
use Rattle.num.specs.Laws.Past.{past64}
use Rattle.num.specs.Floats.{nought}
use Rattle.models.specs.Signs.{◌⊕◌, ◌⊖◌}
use Rattle.models.specs.declared.vpwl.Point.{Point}
use Rattle.models.specs.Laws.Points.{last_at, further, found}
use Rattle.models.specs.Vpwl.{point_at, points_from, between, pattern_at, level_at, single, at_end, pattern_first_at}

pub past_point : (s : List ℕ) (k : ℕ) → length s / 16 < k → point_at s k ≡ record { time = nought; level = nought }
unfolding point_at float_at
past_point s k h = rw (past64 s (16 * k) (omega arith), past64 s (16 * k + 8) (omega arith))

pub cut : (s : List ℕ) (k n i : ℕ) → i < n → points_from s (k + i) (n - i) ≡ point_at s (k + i) ∷ points_from s (k + (i + 1)) (n - (i + 1))
unfolding points_from
cut s k n i h =
    let e : n - i ≡ suc (n - (i + 1)) = omega arith in
    let f : k + i + 1 ≡ k + (i + 1) = omega arith in
    rw (e, f)

pub some_points : (s : List ℕ) (k n : ℕ) (delay repeat t : Float) → 0 < n → pattern_at (points_from s k n) delay repeat t ≡ level_at (points_from s k n) (point_at s (k + (n - 1))) delay repeat t
unfolding pattern_at points_from
some_points s k zero delay repeat t h = absurd (omega arith)
some_points s k (suc n) delay repeat t h =
    let e : suc n - 1 ≡ n = omega arith in
    rw (e, last_at s k n)

single_at : (s : List ℕ) (k n : ℕ) → single (points_from s k n) ≡ eqb (suc n) 1
unfolding points_from
single_at s k zero = refl
single_at s k (suc n) = sym (ne_eqb (suc (suc n)) 1 (λ e. omega arith))

-- the rule of the option on a part of the points, by its first point p and its last point l
pub some_first : (s : List ℕ) (k n : ℕ) (delay repeat t : Float) (p l : Point) → 0 < n → p ≡ point_at s (k + 0) → l ≡ point_at s (k + (n - 1))
    → pattern_first_at (points_from s k n) delay repeat t
    ≡ cond (lt t delay) nought (cond (at_end repeat t (delay ⊕ l.time)) l.level (cond (eqb n 1) p.level
    (cond (not (lt p.time (rem binary64 (t ⊖ delay) l.time))) p.level (pattern_at (points_from s k n) delay repeat t))))
unfolding pattern_first_at points_from
some_first s k zero delay repeat t p l h e f = absurd (omega arith)
some_first s k (suc n) delay repeat t p l h e f =
    let z : suc n - 1 ≡ n = omega arith in
    rw (e, f, z, add-zero, last_at s k n, single_at s (k + 1) n)

pub no_point : (tc t1 v1 : Float) (s : List ℕ) (k n : ℕ) → n ≡ 0 → between tc t1 v1 (points_from s k n) ≡ record { t1 = t1; v1 = v1; t2 = nought; v2 = nought }
unfolding between points_from
no_point tc t1 v1 s k zero e = refl
no_point tc t1 v1 s k (suc n) e = absurd (omega arith)

module _ (tc t1 v1 : Float) (s : List ℕ) (k n i : ℕ) (h : i < n) (p : Point) (e : p ≡ point_at s (k + i)) where
  pub beyond : lt p.time tc ≡ true → between tc t1 v1 (points_from s (k + i) (n - i)) ≡ between tc p.time p.level (points_from s (k + (i + 1)) (n - (i + 1)))
  beyond t = rw (cut s k n i h, ← e) (further tc t1 v1 p _ t)

  pub reached : lt p.time tc ≡ false → between tc t1 v1 (points_from s (k + i) (n - i)) ≡ record { t1 = t1; v1 = v1; t2 = p.time; v2 = p.level }
  reached t = rw (cut s k n i h, ← e) (found tc t1 v1 p _ t)
