-- What the option `pattern_first` promises of a pattern whose times rise from 0.0 on (Rising): the first level up to its first time, the last level from its end on, the line between neighbours, each cycle as the first, and never a NaN.
-- Clients cite the laws marked pub; those over bytes, which `models.vpwl.level` and the C door read, stand last. Assumes nothing.
use Rattle.std.specs.Prelude.{ℕ, suc, ◌+◌, ◌≤◌, ◌<◌, ◌≡◌, ◌⊎◌, Bool, ◌&&◌, ◌||◌, cond, T, Float}
use Rattle.std.proofs.Math.Path.{refl, sym, ap}
use Rattle.std.proofs.Common.{◌∙◌, inl, inr}
use Rattle.std.proofs.Math.Logic.{⊎_elim}
use Rattle.std.proofs.Math.Bool.{true, false}
use mathlib.Core.List.{List, [], ◌∷◌}
use Rattle.std.specs.Float.Ieee.{binary64, rem, lt, le, eq, fits, is_nan, of_bits}
use Rattle.std.specs.Float.Ieee.Bits.{of_bits-fits}
use Rattle.std.specs.Float.Ieee.Fits.{sub-fits, rem-fits}
use Rattle.std.specs.Float.Ieee.Positive.{positive}
use Rattle.std.specs.Float.Ieee.Scale.{finite}
use Rattle.num.specs.Floats.{nought}
use Rattle.num.specs.Laws.Less.{no, lt_self, lt_trans, lt_either}
use Rattle.models.specs.Signs.{◌⊕◌, ◌⊖◌}
use Rattle.models.specs.declared.vpwl.Point.{Point}
use Rattle.models.specs.Vpwl.{point_at, points_from, last_of, between, or_zero, level_on, past_end, level_at, pattern_at, single, at_end, pattern_first_at, pattern_of}
use Rattle.models.specs.Laws.Points.{last_at, further, found}
use Rattle.models.specs.Laws.Binary64.{from_zero, refuted, lt_le, less_zero, zero_plus, self_zero, positive_of, difference, finite_number, cond_number, add_number, mul_number}
use Rattle.models.specs.Laws.Remainder.{rem_below, rem_nought, rem_zero, rem_within, rem_positive}
use Rattle.models.specs.Laws.Rising.{FinitePoint, Rising, TimesFit, Neighbours, segment, RisingBytes, next, alone_or_above, several, last_finite, last_start, last_fits, since_first, more_than_one, first_below, finds, times_read, rising_read, neighbours_read}

-- ---- the option

-- off, a pattern is as before
pub patterns_off : (ps : List Point) (delay repeat t : Float) → pattern_of false ps delay repeat t ≡ pattern_at ps delay repeat t
unfolding pattern_of
patterns_off ps delay repeat t = refl

-- on, it is by the rule of this file
pub patterns_on : (ps : List Point) (delay repeat t : Float) → pattern_of true ps delay repeat t ≡ pattern_first_at ps delay repeat t
unfolding pattern_of
patterns_on ps delay repeat t = refl

-- ---- the rule's sentences, for any points, delay, repeat and time

-- the time since the delay, less whole cycles
abbrev pub cycle_time : Point → List Point → Float → Float → Float
cycle_time p ps delay t = rem binary64 (t ⊖ delay) (last_of p ps).time

-- the time of the end
abbrev pub end_time : Point → List Point → Float → Float
end_time p ps delay = delay ⊕ (last_of p ps).time

same : {A : Type 0} (b : Bool) (x : A) → cond b x x ≡ x
same true x = refl
same false x = refl

module _ (delay repeat t : Float) where
  -- "no points: 0"
  pub no_points : pattern_first_at [] delay repeat t ≡ nought
  unfolding pattern_first_at
  no_points = refl

  -- "a time before the delay: 0"
  pub before_delay : (ps : List Point) → lt t delay ≡ true → pattern_first_at ps delay repeat t ≡ nought
  unfolding pattern_first_at
  before_delay [] h = refl
  before_delay (p ∷ ps) h = rw h

  module _ (p : Point) (ps : List Point) (since : lt t delay ≡ false) where
    -- "without repeat and at or past its end: the last level"
    pub at_end_lem : at_end repeat t (end_time p ps delay) ≡ true → pattern_first_at (p ∷ ps) delay repeat t ≡ (last_of p ps).level
    unfolding pattern_first_at
    at_end_lem h = rw (since, h)

    -- "a single point: its level"
    pub one_point : ps ≡ [] → pattern_first_at (p ∷ ps) delay repeat t ≡ p.level
    unfolding pattern_first_at last_of
    one_point e = rw (e, since) (same (at_end repeat t (delay ⊕ p.time)) p.level)

    module _ (before : at_end repeat t (end_time p ps delay) ≡ false) where
      -- "a cycle time not above the first point's: the first level"
      pub to_first : lt p.time (cycle_time p ps delay t) ≡ false → pattern_first_at (p ∷ ps) delay repeat t ≡ p.level
      unfolding pattern_first_at
      to_first h = rw (since, before, h) (same (single ps) p.level)

      -- "then as before"
      pub then_as_before : single ps ≡ false → lt p.time (cycle_time p ps delay t) ≡ true → pattern_first_at (p ∷ ps) delay repeat t ≡ pattern_at (p ∷ ps) delay repeat t
      unfolding pattern_first_at
      then_as_before s h = rw (since, before, s, h)

-- ---- times that rise, and any delay

nought_number : is_nan nought ≡ false
unfolding is_nan of_bits
nought_number = refl

or_zero_number : (x : Float) → is_nan (or_zero x) ≡ false
unfolding or_zero
or_zero_number x = go (is_nan x) refl
  where
    go : (b : Bool) → is_nan x ≡ b → is_nan (cond b nought x) ≡ false
    go true e = nought_number
    go false e = e

either : (b : Bool) → (b ≡ true) ⊎ (b ≡ false)
either true = inl refl
either false = inr refl

-- before its end a pattern is not past it
not_past : (repeat t end : Float) → at_end repeat t end ≡ false → past_end repeat t end ≡ false
unfolding le
not_past repeat t end = go (lt repeat nought) (lt end t) (eq end t)
  where
    go : (a b c : Bool) → (a && (b || c)) ≡ false → (a && b) ≡ false
    go true true c h = h
    go true false c h = refl
    go false b c h = refl

module _ (tc : Float) (fit : T (fits binary64 tc)) (some : T (positive tc)) where
  -- no NaN on a line that starts at a point before the cycle time
  line_number : (p : Point) (t2 v2 : Float) → T (fits binary64 p.time) → FinitePoint p → lt p.time nought ≡ false → lt p.time tc ≡ true
      → is_nan (level_on (record { t1 = p.time; v1 = p.level; t2 = t2; v2 = v2 }) tc) ≡ false
  unfolding level_on
  line_number p t2 v2 h f z l = add_number _ p.level (mul_number _ (tc ⊖ p.time) (or_zero_number _) (difference tc p.time fit h some z l)) f.level

  -- so on none that the search can find
  level_number : (p : Point) (ps : List Point) → TimesFit (p ∷ ps) → Rising p ps → lt p.time tc ≡ true → is_nan (level_on (between tc p.time p.level ps) tc) ≡ false
  level_number p [] h r l = unfold between in line_number p nought nought h.0 r.first r.start l
  level_number p (q ∷ qs) h r l =
      ⊎_elim
      (λ e. rw (further tc p.time p.level q qs e) (level_number q qs h.1 (next r) e))
      (λ e. rw (found tc p.time p.level q qs e) (line_number p q.time q.level h.0 r.first r.start l))
      (either (lt q.time tc))

module _ (p : Point) (ps : List Point) (fit : TimesFit (p ∷ ps)) (rising : Rising p ps) (delay repeat : Float) where
  -- at the delay, if the end is later, the first level, exactly
  pub at_delay : T (finite delay) → at_end repeat delay (end_time p ps delay) ≡ false → pattern_first_at (p ∷ ps) delay repeat delay ≡ p.level
  at_delay f b =
      let tc = cycle_time p ps delay delay in
      let z : lt nought tc ≡ false = rw (self_zero delay f) (rem_nought (last_of p ps).time) in
      to_first delay repeat delay p ps (lt_self delay) b (refuted (lt p.time tc) (λ u. no (sym z ∙ from_zero p.time tc rising.start u)))

  module _ (t : Float) where
    -- where the cycle time lies between two neighbours, the level on the line through the two
    pub on_cycle_line : lt t delay ≡ false → at_end repeat t (end_time p ps delay) ≡ false → (a b : Point) → Neighbours a b p ps → lt a.time (cycle_time p ps delay t) ≡ true → lt b.time (cycle_time p ps delay t) ≡ false
        → pattern_first_at (p ∷ ps) delay repeat t ≡ level_on (segment a b) (cycle_time p ps delay t)
    unfolding pattern_at level_at
    on_cycle_line s e a b n h k =
        let tc = cycle_time p ps delay t in
        let l = first_below tc n rising.climbing h in
        then_as_before delay repeat t p ps s e (more_than_one n) l
        ∙ rw (not_past repeat t (end_time p ps delay) e, since_first p ps tc rising l, finds tc nought nought n rising.climbing h k)

    last_number : is_nan (last_of p ps).level ≡ false
    last_number = finite_number (last_of p ps).level (last_finite p ps rising).level

    first_number : is_nan p.level ≡ false
    first_number = finite_number p.level rising.first.level

    line_of_two : lt p.time (cycle_time p ps delay t) ≡ true → is_nan (level_on (between (cycle_time p ps delay t) nought nought (p ∷ ps)) (cycle_time p ps delay t)) ≡ false
    line_of_two h =
        let tc = cycle_time p ps delay t in
        let f = sub-fits binary64 t delay in
        let z = from_zero p.time tc rising.start h in
        rw (further tc nought nought p ps h) (level_number tc (rem-fits binary64 (t ⊖ delay) (last_of p ps).time f) (rem_positive (t ⊖ delay) (last_of p ps).time f z) p ps fit rising h)

    before_number : lt p.time (cycle_time p ps delay t) ≡ true → is_nan (pattern_at (p ∷ ps) delay repeat t) ≡ false
    unfolding pattern_at level_at
    before_number h = cond_number (past_end repeat t (end_time p ps delay)) _ _ last_number (cond_number (lt (cycle_time p ps delay t) nought) _ _ nought_number (line_of_two h))

    -- whatever the delay, the repeat and the time, infinities and NaN included, the level is no NaN
    pub never_nan : is_nan (pattern_first_at (p ∷ ps) delay repeat t) ≡ false
    never_nan = ⊎_elim (λ h. rw (before_delay delay repeat t (p ∷ ps) h) nought_number) since (either (lt t delay))
      where
        among : lt t delay ≡ false → at_end repeat t (end_time p ps delay) ≡ false → lt p.time (last_of p ps).time ≡ true → is_nan (pattern_first_at (p ∷ ps) delay repeat t) ≡ false
        among s b u =
            ⊎_elim
            (λ h. rw (then_as_before delay repeat t p ps s b (several p ps u) h) (before_number h))
            (λ h. rw (to_first delay repeat t p ps s b h) first_number)
            (either (lt p.time (cycle_time p ps delay t)))

        before : lt t delay ≡ false → at_end repeat t (end_time p ps delay) ≡ false → is_nan (pattern_first_at (p ∷ ps) delay repeat t) ≡ false
        before s b = ⊎_elim (λ e. rw (one_point delay repeat t p ps s e) first_number) (among s b) (alone_or_above p ps rising.climbing)

        since : lt t delay ≡ false → is_nan (pattern_first_at (p ∷ ps) delay repeat t) ≡ false
        since s = ⊎_elim (λ h. rw (at_end_lem delay repeat t p ps s h) last_number) (before s) (either (at_end repeat t (end_time p ps delay)))

-- ---- times that rise, and a delay of 0.0

and_no : (a b : Bool) → b ≡ false → (a && b) ≡ false
and_no true b h = h
and_no false b h = refl

module _ (p : Point) (ps : List Point) (fit : TimesFit (p ∷ ps)) (rising : Rising p ps) (repeat : Float) where
  -- where the last time is above the first, it is the end
  end_is : lt p.time (last_of p ps).time ≡ true → end_time p ps nought ≡ (last_of p ps).time
  end_is l = zero_plus (last_of p ps).time (last_fits p ps fit) (from_zero p.time (last_of p ps).time rising.start l)

  module _ (t : Float) (held : T (fits binary64 t)) (below_end : lt t (last_of p ps).time ≡ true) (from_start : lt t nought ≡ false) where
    -- before the end a time is its own cycle time
    cycle_is : cycle_time p ps nought t ≡ t
    cycle_is = rw (less_zero t held) (rem_below t (last_of p ps).time held from_start below_end)

    not_at_end : lt p.time (last_of p ps).time ≡ true → at_end repeat t (end_time p ps nought) ≡ false
    not_at_end l = and_no (lt repeat nought) (le (end_time p ps nought) t) (rw (end_is l) (lt_le t (last_of p ps).time below_end))

  -- from 0.0 to the first point's time the first level, exactly
  pub until_first : (t : Float) → T (fits binary64 t) → T (finite t) → lt t nought ≡ false → lt p.time t ≡ false → pattern_first_at (p ∷ ps) nought repeat t ≡ p.level
  until_first t held f z h =
      let l = (last_of p ps).time in
      let early : lt p.time l ≡ true → lt t l ≡ true = λ u. ⊎_elim (λ v. no (sym h ∙ v)) (λ v. v) (lt_either p.time l t f u) in
      ⊎_elim
      (one_point nought repeat t p ps z)
      (λ u. to_first nought repeat t p ps z (not_at_end t held (early u) z u) (rw (cycle_is t held (early u) z) h))
      (alone_or_above p ps rising.climbing)

  -- so at that time
  pub at_first : pattern_first_at (p ∷ ps) nought repeat p.time ≡ p.level
  at_first = until_first p.time fit.0 rising.first.time rising.start (lt_self p.time)

  -- and at time 0.0, which is that of DC
  pub at_zero : pattern_first_at (p ∷ ps) nought repeat nought ≡ p.level
  unfolding of_bits
  at_zero = until_first nought (of_bits-fits binary64 0) tt (lt_self nought) rising.start

  -- without repeat, from the last point's time on the last level, exactly
  pub from_end : (t : Float) → lt repeat nought ≡ true → le (last_of p ps).time t ≡ true → pattern_first_at (p ∷ ps) nought repeat t ≡ (last_of p ps).level
  unfolding last_of
  from_end t r h =
      let l = (last_of p ps).time in
      let early : lt t nought ≡ true → ⊥ = λ u. ⊎_elim (λ v. no (sym (lt_le t l v) ∙ h)) (λ v. no (sym (last_start p ps rising) ∙ v)) (lt_either t nought l (last_finite p ps rising).time u) in
      let since : lt t nought ≡ false = refuted (lt t nought) early in
      ⊎_elim
      (λ e. one_point nought repeat t p ps since e ∙ rw e)
      (λ u. at_end_lem nought repeat t p ps since (rw (r, end_is u) h))
      (alone_or_above p ps rising.climbing)

  module _ (t : Float) (held : T (fits binary64 t)) (below_end : lt t (last_of p ps).time ≡ true) where
    -- between the first time and the last, as before
    pub in_between : lt p.time t ≡ true → pattern_first_at (p ∷ ps) nought repeat t ≡ pattern_at (p ∷ ps) nought repeat t
    in_between h =
        let z = since_first p ps t rising h in
        let u = lt_trans p.time t (last_of p ps).time h below_end in
        then_as_before nought repeat t p ps z (not_at_end t held below_end z u) (several p ps u) (rw (cycle_is t held below_end z) h)

    -- above one point's time and not above the next one's, the level on the line through the two
    pub on_line : (a b : Point) → Neighbours a b p ps → lt a.time t ≡ true → lt b.time t ≡ false → pattern_first_at (p ∷ ps) nought repeat t ≡ level_on (segment a b) t
    on_line a b n h k =
        let l = first_below t n rising.climbing h in
        let z = since_first p ps t rising l in
        let e = cycle_is t held below_end z in
        rw e at (on_cycle_line p ps fit rising nought repeat t z (not_at_end t held below_end z (lt_trans p.time t (last_of p ps).time l below_end)) a b n (rw e h) (rw e k))

  module _ (t : Float) (held : T (fits binary64 t)) (f : T (finite t)) (since : lt t nought ≡ false) (repeats : lt repeat nought ≡ false) where
    cycle_again : lt nought (last_of p ps).time ≡ true → pattern_first_at (p ∷ ps) nought repeat t ≡ pattern_first_at (p ∷ ps) nought repeat (rem binary64 t (last_of p ps).time)
    unfolding pattern_first_at pattern_at level_at
    cycle_again u =
        let l = (last_of p ps).time in
        let tc = rem binary64 t l in
        let w = rem_within t l held (last_fits p ps fit) f (positive_of l u (last_finite p ps rising).time) since in
        let held' = rem-fits binary64 t l held in
        let again : rem binary64 tc l ≡ tc = rem_below tc l held' w.1 w.0 in
        rw (since, w.1, repeats, less_zero t held, less_zero tc held', again)

    -- where the last time is 0.0 there is one point only
    no_cycle : lt nought (last_of p ps).time ≡ false → pattern_first_at (p ∷ ps) nought repeat t ≡ pattern_first_at (p ∷ ps) nought repeat (rem binary64 t (last_of p ps).time)
    unfolding lt
    no_cycle u =
        let l = (last_of p ps).time in
        let e = rem_zero t l (last_finite p ps rising).time (last_start p ps rising) u in
        ⊎_elim
        (λ a. one_point nought repeat t p ps since a ∙ sym (one_point nought repeat (rem binary64 t l) p ps (rw e) a))
        (λ v. no (sym u ∙ from_zero p.time l rising.start v))
        (alone_or_above p ps rising.climbing)

    -- with repeat, the level of a time is that of its cycle time
    pub each_cycle : pattern_first_at (p ∷ ps) nought repeat t ≡ pattern_first_at (p ∷ ps) nought repeat (rem binary64 t (last_of p ps).time)
    each_cycle = ⊎_elim cycle_again no_cycle (either (lt nought (last_of p ps).time))

-- ---- the same of points read from bytes: those from number k to number k + n

module _ (s : List ℕ) (k n : ℕ) (rising : RisingBytes s k n) (repeat : Float) where
  -- at the first time the first level
  pub read_first : pattern_first_at (points_from s k (suc n)) nought repeat (point_at s k).time ≡ (point_at s k).level
  unfolding points_from
  read_first = at_first (point_at s k) (points_from s (k + 1) n) (times_read s k (suc n)) (rising_read s k n rising) repeat

  -- and at time 0.0
  pub read_zero : pattern_first_at (points_from s k (suc n)) nought repeat nought ≡ (point_at s k).level
  unfolding points_from
  read_zero = at_zero (point_at s k) (points_from s (k + 1) n) (times_read s k (suc n)) (rising_read s k n rising) repeat

  -- without repeat, from the last time on the last level
  pub read_end : (t : Float) → lt repeat nought ≡ true → le (point_at s (k + n)).time t ≡ true → pattern_first_at (points_from s k (suc n)) nought repeat t ≡ (point_at s (k + n)).level
  unfolding points_from
  read_end t r h =
      from_end (point_at s k) (points_from s (k + 1) n) (times_read s k (suc n)) (rising_read s k n rising) repeat t r (rw (last_at s k n) h)
      ∙ ap (λ (q : Point). q.level) (last_at s k n)

  -- above the time of number i and not above that of the next, the level on the line through the two
  pub read_line : (i : ℕ) → k ≤ i → i < k + n → (t : Float) → T (fits binary64 t) → lt (point_at s i).time t ≡ true → lt (point_at s (i + 1)).time t ≡ false → lt t (point_at s (k + n)).time ≡ true
      → pattern_first_at (points_from s k (suc n)) nought repeat t ≡ level_on (segment (point_at s i) (point_at s (i + 1))) t
  unfolding points_from
  read_line i a b t held h l e =
      on_line (point_at s k) (points_from s (k + 1) n) (times_read s k (suc n)) (rising_read s k n rising) repeat t held (rw (last_at s k n) e) (point_at s i) (point_at s (i + 1)) (neighbours_read s k n i a b) h l

  -- with repeat, each cycle as the first
  pub read_cycle : (t : Float) → T (fits binary64 t) → T (finite t) → lt t nought ≡ false → lt repeat nought ≡ false
      → pattern_first_at (points_from s k (suc n)) nought repeat t ≡ pattern_first_at (points_from s k (suc n)) nought repeat (rem binary64 t (point_at s (k + n)).time)
  unfolding points_from
  read_cycle t held f z r =
      each_cycle (point_at s k) (points_from s (k + 1) n) (times_read s k (suc n)) (rising_read s k n rising) repeat t held f z r
      ∙ ap (λ (q : Point). pattern_first_at (point_at s k ∷ points_from s (k + 1) n) nought repeat (rem binary64 t q.time)) (last_at s k n)

  -- never a NaN, whatever the delay, the repeat and the time
  pub read_never_nan : (delay t : Float) → is_nan (pattern_first_at (points_from s k (suc n)) delay repeat t) ≡ false
  unfolding points_from
  read_never_nan delay t = never_nan (point_at s k) (points_from s (k + 1) n) (times_read s k (suc n)) (rising_read s k n rising) delay repeat t
