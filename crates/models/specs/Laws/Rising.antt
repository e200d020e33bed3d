-- Patterns whose times rise from 0.0 on, and what holds of their points. Clients cite FinitePoint, Rising, TimesFit, Neighbours, segment, RisingBytes, and rising_read, times_read, neighbours_read, which lead from bytes to these. Assumes nothing.
use Rattle.std.specs.Prelude.{ℕ, zero, suc, ◌+◌, ◌≤◌, ◌<◌, ◌≡◌, refl, ◌⊎◌, true, false, List, [], ◌∷◌, T, Float}
use Rattle.std.proofs.Common.{sym, ◌∙◌, subst, inl, inr, ⊎_elim, eq-or-lt_of_le, arith}
use Rattle.std.specs.Float.{binary64}
use Rattle.std.specs.Float.Ieee.{lt, fits}
use Rattle.std.specs.Float.Ieee.Bits.{of_bits-fits}
use Rattle.std.specs.Float.Ieee.Scale.{finite}
use Rattle.num.specs.Le.{float_at}
use Rattle.num.specs.Floats.{nought}
use Rattle.num.specs.Laws.Less.{no, lt_self, lt_trans}
use Rattle.models.specs.declared.vpwl.Point.{Point}
use Rattle.models.specs.declared.vpwl.Segment.{Segment}
use Rattle.models.specs.Vpwl.{point_at, points_from, last_of, between, single}
use Rattle.models.specs.Laws.Binary64.{refuted}
use Rattle.models.specs.Laws.Points.{further, found}

-- ---- the premise

-- a point whose time and level are finite numbers
pub record FinitePoint (p : Point) : Type 0 where
  pub time : T (finite p.time)
  pub level : T (finite p.level)

-- each point after p is finite, and its time is above the time before
abbrev pub Climbing : Point → List Point → Type 0
Climbing p [] = Unit
Climbing p (q ∷ qs) = (lt p.time q.time ≡ true) × FinitePoint q × Climbing q qs

-- p and the points after it are finite, the first time is not below 0.0, and each time is above the time before
pub record Rising (p : Point) (ps : List Point) : Type 0 where
  pub first : FinitePoint p
  pub start : lt p.time nought ≡ false
  pub climbing : Climbing p ps

-- each time is a number of binary64, as every float is that a function takes, reads or makes
abbrev pub TimesFit : List Point → Type 0
TimesFit [] = Unit
TimesFit (p ∷ ps) = T (fits binary64 p.time) × TimesFit ps

-- a and b are neighbours among p and the points after it
pub data Neighbours (a b : Point) : Point → List Point → Type 0 where
  here : {qs : List Point} → Neighbours a b a (b ∷ qs)
  later : {p q : Point} {qs : List Point} → Neighbours a b q qs → Neighbours a b p (q ∷ qs)

-- from a to b
abbrev pub segment : Point → Point → Segment
segment a b = record { t1 = a.time; v1 = a.level; t2 = b.time; v2 = b.level }

-- ---- the points after the first

-- what is above a number that is not below 0.0 is not below 0.0 either
still : (q z : Float) → lt q nought ≡ false → lt q z ≡ true → lt z nought ≡ false
still q z h p = refuted (lt z nought) (λ u. no (sym h ∙ lt_trans q z nought p u))

-- without its first point a rising pattern rises
pub next : {p q : Point} {qs : List Point} → Rising p (q ∷ qs) → Rising q qs
next {p} {q} r = record { first = r.climbing.1; start = still p.time q.time r.start r.climbing.0; climbing = r.climbing.2 }

last_above : (p q : Point) (qs : List Point) → Climbing p (q ∷ qs) → lt p.time (last_of q qs).time ≡ true
unfolding last_of
last_above p q [] c = c.0
last_above p q (r ∷ rs) c = lt_trans p.time q.time (last_of r rs).time c.0 (last_above q r rs c.2)

-- p is alone, or the last time is above the first
pub alone_or_above : (p : Point) (ps : List Point) → Climbing p ps → (ps ≡ []) ⊎ (lt p.time (last_of p ps).time ≡ true)
unfolding last_of
alone_or_above p [] c = inl refl
alone_or_above p (q ∷ qs) c = inr (last_above p q qs c)

-- where the last time is above the first there is more than one point
pub several : (p : Point) (ps : List Point) → lt p.time (last_of p ps).time ≡ true → single ps ≡ false
unfolding last_of
several p [] h = no (sym (lt_self p.time) ∙ h)
several p (q ∷ qs) h = refl

-- the last point is finite
pub last_finite : (p : Point) (ps : List Point) → Rising p ps → FinitePoint (last_of p ps)
unfolding last_of
last_finite p [] r = r.first
last_finite p (q ∷ qs) r = last_finite q qs (next r)

-- the last time is not below 0.0
pub last_start : (p : Point) (ps : List Point) → Rising p ps → lt (last_of p ps).time nought ≡ false
unfolding last_of
last_start p [] r = r.start
last_start p (q ∷ qs) r = last_start q qs (next r)

-- the last time is a number of binary64
pub last_fits : (p : Point) (ps : List Point) → TimesFit (p ∷ ps) → T (fits binary64 (last_of p ps).time)
unfolding last_of
last_fits p [] h = h.0
last_fits p (q ∷ qs) h = last_fits q qs h.1

-- a time above the first is not below 0.0
pub since_first : (p : Point) (ps : List Point) (t : Float) → Rising p ps → lt p.time t ≡ true → lt t nought ≡ false
since_first p ps t r h = still p.time t r.start h

-- ---- the neighbours that a time lies between

-- neighbours are more than one point
pub more_than_one : {a b p : Point} {ps : List Point} → Neighbours a b p ps → single ps ≡ false
more_than_one here = refl
more_than_one (later n) = refl

-- a time above one of them is above the first
pub first_below : {a b p : Point} {ps : List Point} (t : Float) → Neighbours a b p ps → Climbing p ps → lt a.time t ≡ true → lt p.time t ≡ true
first_below t here c h = h
first_below t (later {p = p} {q = q} n) c h = lt_trans p.time q.time t c.0 (first_below t n c.2 h)

-- the search finds them
pub finds : {a b p : Point} {ps : List Point} (t t1 v1 : Float) → Neighbours a b p ps → Climbing p ps → lt a.time t ≡ true → lt b.time t ≡ false → between t t1 v1 (p ∷ ps) ≡ segment a b
finds {a} {b} t t1 v1 (here {qs = qs}) c h k = further t t1 v1 a (b ∷ qs) h ∙ found t a.time a.level b qs k
finds {a} {b} t t1 v1 (later {p = p} {q = q} {qs = qs} n) c h k = further t t1 v1 p (q ∷ qs) (first_below {p = p} t (later n) c h) ∙ finds t p.time p.level n c.2 h k

-- ---- points read from bytes

-- of the points from number k to number k + n
pub record RisingBytes (s : List ℕ) (k n : ℕ) : Type 0 where
  pub each : (i : ℕ) → k ≤ i → i ≤ k + n → FinitePoint (point_at s i)
  pub start : lt (point_at s k).time nought ≡ false
  pub rises : (i : ℕ) → k ≤ i → i < k + n → lt (point_at s i).time (point_at s (i + 1)).time ≡ true

-- every time read is a number of binary64
pub times_read : (s : List ℕ) (k n : ℕ) → TimesFit (points_from s k n)
unfolding points_from point_at float_at
times_read s k zero = tt
times_read s k (suc n) = (of_bits-fits binary64 _, times_read s (k + 1) n)

climbing_read : (s : List ℕ) (k n : ℕ) → ((i : ℕ) → k ≤ i → i ≤ k + n → FinitePoint (point_at s i)) → ((i : ℕ) → k ≤ i → i < k + n → lt (point_at s i).time (point_at s (i + 1)).time ≡ true)
    → Climbing (point_at s k) (points_from s (k + 1) n)
unfolding points_from
climbing_read s k zero f r = tt
climbing_read s k (suc n) f r =
    (r k (omega arith) (omega arith), f (k + 1) (omega arith) (omega arith), climbing_read s (k + 1) n (λ i a b. f i (omega arith) (omega arith)) (λ i a b. r i (omega arith) (omega arith)))

-- so the points read rise
pub rising_read : (s : List ℕ) (k n : ℕ) → RisingBytes s k n → Rising (point_at s k) (points_from s (k + 1) n)
rising_read s k n r = record { first = r.each k (omega arith) (omega arith); start = r.start; climbing = climbing_read s k n r.each r.rises }

-- number i and the next are neighbours
pub neighbours_read : (s : List ℕ) (k n i : ℕ) → k ≤ i → i < k + n → Neighbours (point_at s i) (point_at s (i + 1)) (point_at s k) (points_from s (k + 1) n)
unfolding points_from
neighbours_read s k zero i h l = absurd (omega arith)
neighbours_read s k (suc n) i h l =
    ⊎_elim
    (λ e. subst (λ (j : ℕ). Neighbours (point_at s j) (point_at s (j + 1)) (point_at s k) (point_at s (k + 1) ∷ points_from s (k + 1 + 1) n)) e here)
    (λ g. later (neighbours_read s (k + 1) n i (omega arith) (omega arith)))
    (eq-or-lt_of_le h)
