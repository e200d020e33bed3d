-- At a thermal voltage above zero a fall back is a step down and a climb a step up, each by more than two thermal voltages. Clients cite fall_down and climb_up. Assumes nothing.
use Rattle.std.specs.Prelude.{ℕ, zero, suc, ◌+◌, ◌-◌, ◌*◌, ◌^◌, ◌≤◌, ◌<◌, ◌≡◌, refl, Bool, true, false, not, ◌&&◌, ◌||◌, cond, T, ltb, eqb, ℤ, pos, Float}
use Rattle.std.proofs.Common.{sym, ◌∙◌, subst, ⊎_elim, eq-or-lt_of_le, le_of_lt, zero-mul, one-mul, mul_assoc, mul-pos, arith, ltb-false, lt-ltb, le-ltb, ne_eqb, eq-eqb, eqb-true, ltb→lt, pow_pos}
use Rattle.std.specs.Float.{nan, inf, fin, Format, binary64}
use Rattle.std.specs.Float.Ieee.{prec, emax, low, up, down, odd, units, round, neg, sum, add, mul, div, lt, eq, le, below, level, fits, is_nan, of_bits}
use Rattle.std.specs.Float.Ieee.Fits.{up_pos, down_pos, round_is, sub-fits}
use Rattle.std.specs.Float.Ieee.Order.{round_mono}
use Rattle.std.specs.Float.Ieee.Positive.{above, above_of_le, le→cross}
use Rattle.num.specs.Floats.{nought, absolute_of}
use Rattle.num.specs.Literals.{one, two}
use Rattle.num.specs.Laws.Less.{no, le_or_lt}
use Rattle.models.specs.Signs.{◌⊕◌, ◌⊖◌, ◌⊗◌, ◌⊘◌}
use Rattle.models.specs.Situation.{argument}
use Rattle.models.specs.Laws.Binary64.{own, other_sign, positive_of, refuted}
use Rattle.models.specs.Laws.Situations.{Holds}
use Rattle.models.specs.declared.diode.Situation.TheVariants.{FallBack, Climb}

-- ---- the sign of what is rounded

-- neither a NaN nor with a minus
abbrev plus : Float → Bool
plus nan = false
plus (inf s) = not s
plus (fin s m e) = not s

odd_plus : (d q k l : ℕ) → plus (odd d false q k l) ≡ true
unfolding odd
odd_plus d zero k l = refl
odd_plus d (suc q) k l = refl

units_plus : (f : Format) (q k : ℕ) → plus (units f false q k) ≡ true
unfolding units
units_plus f q k = go (ltb (q * 2 ^ k) (2 ^ (low f + suc (emax f))))
  where
    go : (b : Bool) → plus (cond b (odd (suc (prec f)) false q k (low f)) (inf false)) ≡ true
    go true = odd_plus (suc (prec f)) q k (low f)
    go false = refl

round_plus : (f : Format) (a c : ℕ) → plus (round f false a c) ≡ true
round_plus f a c = rw (round_is f false a c) (units_plus f _ _)

odd_minus : (d q k l : ℕ) → odd d true q k l ≡ neg (odd d false q k l)
unfolding odd neg
odd_minus d zero k l = refl
odd_minus d (suc q) k l = refl

units_minus : (f : Format) (q k : ℕ) → units f true q k ≡ neg (units f false q k)
unfolding units neg
units_minus f q k = go (ltb (q * 2 ^ k) (2 ^ (low f + suc (emax f))))
  where
    go : (b : Bool) → cond b (odd (suc (prec f)) true q k (low f)) (inf true) ≡ neg (cond b (odd (suc (prec f)) false q k (low f)) (inf false))
    go true = odd_minus (suc (prec f)) q k (low f)
    go false = refl

-- with a minus it rounds to the same, with a minus
round_minus : (f : Format) (a c : ℕ) → round f true a c ≡ neg (round f false a c)
round_minus f a c = rw (round_is f true a c, round_is f false a c) (units_minus f _ _)

-- what stands with a minus is at most 0.0
minus_most : (x : Float) → plus x ≡ true → le (neg x) nought ≡ true
unfolding neg le lt eq of_bits
minus_most nan p = no p
minus_most (inf true) p = no p
minus_most (inf false) p = refl
minus_most (fin true m e) p = no p
minus_most (fin false m e) p = go (m * up e * 1) (0 * 1 * down e) (zero-mul (down e))
  where
    go : (a b : ℕ) → b ≡ 0 → (ltb 0 (a + b) || (eqb a b && (false || eqb a 0))) ≡ true
    go zero b z = rw (z) refl
    go (suc a) b z = rw (lt-ltb 0 (suc a + b) (omega arith)) refl

-- what is above 0.0 is not at most 0.0
above_not : (x : Float) → T (above x) → le x nought ≡ false
unfolding le lt eq of_bits
above_not nan p = absurd p
above_not (inf true) p = absurd p
above_not (inf false) p = refl
above_not (fin true m e) p = absurd p
above_not (fin false m e) p = go (m * up e * 1) (0 * 1 * down e) (zero-mul (down e)) (mul-pos (mul-pos (ltb→lt 0 m p) (up_pos e)) (pow_pos 0))
  where
    go : (a b : ℕ) → b ≡ 0 → 0 < a → (ltb a b || (eqb a b && (true || eqb a 0))) ≡ false
    go a b z h = rw (z, le-ltb a 0 (omega arith), ne_eqb a 0 (λ u. absurd (omega (arith, u, h)))) refl

-- ---- one and a number

-- one and a number without a minus is above 0.0
one_more_lem : (z : Float) → plus z ≡ true → le (one ⊕ z) nought ≡ false
unfolding add sum le lt eq of_bits fits
one_more_lem nan p = no p
one_more_lem (inf true) p = no p
one_more_lem (inf false) p = refl
one_more_lem (fin true m e) p = no p
one_more_lem (fin false m e) p = above_not (round binary64 false x c) (above_of_le one (round binary64 false x c) tt (subst (λ (w : Float). T (le w (round binary64 false x c))) (own false 1 (pos 0) 1 1 tt (pow_pos 0) refl) (round_mono binary64 1 1 x c (pow_pos 0) C l)))
  where
    x : ℕ
    x = 1 * 1 * down e + m * up e * 1

    c : ℕ
    c = 1 * down e

    C : 0 < c
    C = mul-pos (pow_pos 0) (down_pos e)

    l : 1 * c ≤ x * 1
    l = omega (arith, one-mul (down e))

-- one less a number of at least two is at most 0.0
one_less : (z : Float) → T (le two z) → le (one ⊕ neg z) nought ≡ true
unfolding neg add sum le lt eq of_bits
one_less nan h = absurd h
one_less (inf true) h = absurd h
one_less (inf false) h = refl
one_less (fin true m e) h = absurd (above_of_le two (fin true m e) tt h)
one_less (fin false m e) h = rw (lt-ltb (1 * 1 * down e) (m * up e * 1) l, round_minus binary64 (m * up e * 1 - 1 * 1 * down e) (1 * down e)) (minus_most (round binary64 false (m * up e * 1 - 1 * 1 * down e) (1 * down e)) (round_plus binary64 (m * up e * 1 - 1 * 1 * down e) (1 * down e)))
  where
    l : 1 * 1 * down e < m * up e * 1
    l = omega (arith, down_pos e, le→cross two (fin false m e) tt (above_of_le two (fin false m e) tt h) h)

-- ---- comparing

neither : (x y : Bool) → (x || y) ≡ false → (x ≡ false) × (y ≡ false)
neither true y h = no (sym h)
neither false y h = (refl, h)

not_first : (x : Bool) → (x && true) ≡ false → x ≡ false
not_first true h = h
not_first false h = refl

apart : (a b : ℕ) → ltb a b ≡ false → eqb a b ≡ false → b < a
apart a b h k = ⊎_elim (λ (e : b ≡ a). no (sym k ∙ eq-eqb a b (sym e))) (λ l. l) (eq-or-lt_of_le (ltb-false a b h))

-- of two numbers of which the one is not at most the other, the other is below the one
not_le : (x y : Float) → is_nan x ≡ false → is_nan y ≡ false → le x y ≡ false → lt y x ≡ true
unfolding le lt eq is_nan
not_le nan y p q h = no (sym p)
not_le (inf s) nan p q h = no (sym q)
not_le (inf true) (inf true) p q h = no (sym h)
not_le (inf true) (inf false) p q h = no (sym h)
not_le (inf false) (inf true) p q h = refl
not_le (inf false) (inf false) p q h = no (sym h)
not_le (inf true) (fin t n d) p q h = no (sym h)
not_le (inf false) (fin t n d) p q h = refl
not_le (fin s m e) nan p q h = no (sym q)
not_le (fin s m e) (inf true) p q h = refl
not_le (fin s m e) (inf false) p q h = no (sym h)
not_le (fin s m e) (fin t n d) p q h = go s t (m * up e * down d) (n * up d * down e) h
  where
    go : (s t : Bool) (a b : ℕ) → (below s a t b || level s a t b) ≡ false → below t b s a ≡ true
    go false false a b h = let k = neither _ _ h in lt-ltb b a (apart a b k.0 (not_first (eqb a b) k.1))
    go true true a b h = let k = neither _ _ h in lt-ltb a b (apart b a k.0 (eqb_turned a b (not_first (eqb a b) k.1)))
      where
        eqb_turned : (a b : ℕ) → eqb a b ≡ false → eqb b a ≡ false
        eqb_turned a b k = refuted (eqb b a) (λ u. no (sym k ∙ eq-eqb a b (sym (eqb-true b a u))))
    go false true zero zero h = no (sym h)
    go false true zero (suc b) h = lt-ltb 0 (suc b + 0) (omega arith)
    go false true (suc a) b h = lt-ltb 0 (b + suc a) (omega arith)
    go true false zero zero h = no (sym h)
    go true false zero (suc b) h = no (sym (neither (ltb 0 (0 + suc b)) _ h).0 ∙ lt-ltb 0 (0 + suc b) (omega arith))
    go true false (suc a) b h = no (sym (neither (ltb 0 (suc a + b)) _ h).0 ∙ lt-ltb 0 (suc a + b) (omega arith))

plus_number : (x : Float) → plus x ≡ true → is_nan x ≡ false
unfolding is_nan
plus_number nan p = no p
plus_number (inf s) p = refl
plus_number (fin s m e) p = refl

-- twice a number above zero is a number
twice_number : (vt : Float) → lt nought vt ≡ true → is_nan (two ⊗ vt) ≡ false
unfolding mul lt is_nan of_bits
twice_number nan p = no p
twice_number (inf true) p = no p
twice_number (inf false) p = refl
twice_number (fin true n d) p = no p
twice_number (fin false n d) p = plus_number (round binary64 false (2 * (n * up d)) (1 * down d)) (round_plus binary64 (2 * (n * up d)) (1 * down d))

absolute_number : (d : Float) → is_nan d ≡ false → is_nan (absolute_of d) ≡ false
unfolding absolute_of is_nan
absolute_number nan p = p
absolute_number (inf s) p = refl
absolute_number (fin s m e) p = refl

-- a step that is not small goes over more than two thermal voltages
far : (vt d : Float) → lt nought vt ≡ true → is_nan d ≡ false → le (absolute_of d) (two ⊗ vt) ≡ false → lt (two ⊗ vt) (absolute_of d) ≡ true
far vt d p q h = not_le (absolute_of d) (two ⊗ vt) (absolute_number d q) (twice_number vt p) h

-- ---- the sign of the step

-- the significand of a number above zero is none
some : (n : ℕ) (k : ℤ) → lt nought (fin false n k) ≡ true → eqb n 0 ≡ false
some n k p = ne_eqb n 0 (λ z. absurd (omega (arith, z, ltb→lt 0 n (positive_of (fin false n k) p tt))))

-- a step of which the argument is at most zero goes down
fall_sign : (vt d : Float) → lt nought vt ≡ true → le (one ⊕ d ⊘ vt) nought ≡ true → absolute_of d ≡ neg d
unfolding absolute_of neg add div le lt eq of_bits
fall_sign vt nan p h = refl
fall_sign vt (inf true) p h = refl
fall_sign vt (fin true m e) p h = refl
fall_sign nan (inf false) p h = no p
fall_sign (inf true) (inf false) p h = no p
fall_sign (inf false) (inf false) p h = no h
fall_sign (fin true n k) (inf false) p h = no p
fall_sign (fin false n k) (inf false) p h = no h
fall_sign nan (fin false m e) p h = no p
fall_sign (inf true) (fin false m e) p h = no p
fall_sign (inf false) (fin false m e) p h = no (sym (one_more_lem (fin false 0 (pos 0)) refl) ∙ h)
fall_sign (fin true n k) (fin false m e) p h = no p
fall_sign (fin false n k) (fin false m e) p h = no (sym (one_more_lem z (round_plus binary64 (m * up e * down k) (n * up k * down e))) ∙ (rw (some n k p) at h))
  where
    z : Float
    z = round binary64 false (m * up e * down k) (n * up k * down e)

-- a step that is not small is, counted in thermal voltages, two or more
many : (n : ℕ) (k : ℤ) (m : ℕ) (e : ℤ) → T (fits binary64 (fin true m e)) → lt nought (fin false n k) ≡ true → le (fin false m e) (two ⊗ fin false n k) ≡ false
    → T (le two (round binary64 false (m * up e * down k) (n * up k * down e)))
unfolding mul of_bits fits
many n k m e F p h =
    subst (λ (w : Float). T (le w (round binary64 false (m * up e * down k) den))) (own false 1 (pos 1) 2 1 tt (pow_pos 0) refl)
    (round_mono binary64 2 1 (m * up e * down k) den (pow_pos 0) D (⊎_elim (λ l. omega arith) (λ l. absurd (small (within l))) (le_or_lt (2 * den) (m * up e * down k))))
  where
    den : ℕ
    den = n * up k * down e

    D : 0 < den
    D = mul-pos (mul-pos (ltb→lt 0 n (positive_of (fin false n k) p tt)) (up_pos k)) (down_pos e)

    within : m * up e * down k < 2 * den → m * up e * (1 * down k) ≤ 2 * (n * up k) * down e
    within l = rw (one-mul (down k), mul_assoc 2 (n * up k) (down e)) (le_of_lt l)

    small : m * up e * (1 * down k) ≤ 2 * (n * up k) * down e → ⊥
    small l =
        subst T h
        (subst (λ (w : Float). T (le w (round binary64 false (2 * (n * up k)) (1 * down k)))) (own false m e (m * up e) (down e) (other_sign true false m e F) (down_pos e) refl)
        (round_mono binary64 (m * up e) (down e) (2 * (n * up k)) (1 * down k) (down_pos e) (mul-pos (pow_pos 0) (down_pos k)) l))

-- a step that is not small and of which the argument is a number above zero goes up
climb_sign : (vt d : Float) → T (fits binary64 d) → lt nought vt ≡ true → is_nan (one ⊕ d ⊘ vt) ≡ false → le (absolute_of d) (two ⊗ vt) ≡ false → le (one ⊕ d ⊘ vt) nought ≡ false → absolute_of d ≡ d
unfolding absolute_of add div mul le lt eq is_nan of_bits
climb_sign vt nan F p q h g = refl
climb_sign vt (inf false) F p q h g = refl
climb_sign vt (fin false m e) F p q h g = refl
climb_sign nan (inf true) F p q h g = no p
climb_sign (inf true) (inf true) F p q h g = no p
climb_sign (inf false) (inf true) F p q h g = no (sym q)
climb_sign (fin true n k) (inf true) F p q h g = no p
climb_sign (fin false n k) (inf true) F p q h g = no (sym g)
climb_sign nan (fin true m e) F p q h g = no p
climb_sign (inf true) (fin true m e) F p q h g = no p
climb_sign (inf false) (fin true m e) F p q h g = no (sym h)
climb_sign (fin true n k) (fin true m e) F p q h g = no p
climb_sign (fin false n k) (fin true m e) F p q h g = no (sym (rw (some n k p, round_minus binary64 (m * up e * down k) (n * up k * down e)) at g) ∙ one_less (round binary64 false (m * up e * down k) (n * up k * down e)) (many n k m e F p h))

-- ---- the promises

number_of_lem : (vt d : Float) → is_nan (one ⊕ d ⊘ vt) ≡ false → is_nan d ≡ false
unfolding add div is_nan of_bits
number_of_lem vt nan q = q
number_of_lem vt (inf s) q = refl
number_of_lem vt (fin s m e) q = refl

compared : (x y : Float) → le x y ≡ true → is_nan x ≡ false
unfolding le lt eq is_nan
compared nan y h = no h
compared (inf s) y h = refl
compared (fin s m e) y h = refl

-- a fall back goes down, by more than two thermal voltages
pub fall_down : (c vt vcrit v last : Float) → lt nought vt ≡ true → Holds (FallBack c) vt vcrit v last → lt (two ⊗ vt) (neg (v ⊖ last)) ≡ true
fall_down c vt vcrit v last p (hs, hb, hr, hf, e) =
    subst (λ (x : Float). lt (two ⊗ vt) x ≡ true) (fall_sign vt (v ⊖ last) p hf) (far vt (v ⊖ last) p (number_of_lem vt (v ⊖ last) (compared (argument vt v last) nought hf)) hs)

-- a climb whose argument is a number goes up, by more than two thermal voltages
pub climb_up : (a vt vcrit v last : Float) → lt nought vt ≡ true → is_nan a ≡ false → Holds (Climb a) vt vcrit v last → lt (two ⊗ vt) (v ⊖ last) ≡ true
climb_up a vt vcrit v last p q (hs, hb, hr, hf, e) =
    let r : is_nan (argument vt v last) ≡ false = rw (← e) q in
    subst (λ (x : Float). lt (two ⊗ vt) x ≡ true) (climb_sign vt (v ⊖ last) (sub-fits binary64 v last) p r hs hf) (far vt (v ⊖ last) p (number_of_lem vt (v ⊖ last) r) hs)
