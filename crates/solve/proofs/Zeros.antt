-- A zero times a finite number, added to a float, leaves it, unless it is -0.0; and a sum that starts at 0.0 never is. Assumes nothing.
use mathlib.Core.Path.{◌≡◌, refl, sym, ap, ◌∙◌, subst}
use mathlib.Core.Logic.{⊎_elim}
use mathlib.Core.Bool.{Bool, true, false, ◌&&◌, beq, cond}
use Prim.Native.Nat.{ℕ, zero, suc, ◌+◌, ◌-◌, ◌*◌, ◌/◌, ◌%◌, ◌^◌, ◌≤◌, ◌<◌, compare}
use native.Mathlib.Nat.{lt_irrefl, le_trans, zero-lt-suc, zero-mul, mul-one, one-mul, mul_comm, mul_assoc, mul_right_comm, mul-pos, mul-le-mul_right, le-div_iff_mul-le}
use native.Mathlib.Omega.{arith}
use borrow.Author.Tests.{ltb-true, le-ltb, lt-ltb}
use lib.Dec.{T, ltb}
use lib.IntN.{ℤ, pos}
use lib.Pow.{pow_pos}
use lib.Ieee.{Float, nan, inf, fin, Format, binary64, prec, emax, low, up, down, unlike, size, odd, units, round, sum, add, mul, eq, fits, of_bits}
use lib.Ieee.Digits.{size-lt, size_reaches}
use lib.Ieee.Fits.{two, down_pos, up_pos, round_is, add-fits, mul-fits}
use lib.Ieee.Exact.{HasValue, odd_sign}
use lib.Ieee.Nearest.{closest, nearest-ge}
use lib.Ieee.Scale.{finite}
use Rattle.num.specs.Floats.{nought}
use Rattle.num.specs.Laws.Held.{Grid, grid, own, nothing, gap}
use Rattle.loops.specs.Laws.Loop.{le_or_lt}
use Rattle.solve.proofs.Search.{never, none}

-- ---- a sum that is not -0.0

pub minus_zero : Float → Bool
minus_zero nan = false
minus_zero (inf s) = false
minus_zero (fin false m e) = false
minus_zero (fin true zero e) = true
minus_zero (fin true (suc m) e) = false

below_zero : (m : ℕ) (e : ℤ) → minus_zero (fin true m e) ≡ false → 0 < m * up e
unfolding minus_zero
below_zero zero e z = never (sym z)
below_zero (suc m) e z = mul-pos (zero-lt-suc m) (up_pos e)

-- a float that is not -0.0 stays when a zero is added
add_zero : (f : Format) (x : Float) (t : Bool) → T (fits f x) → minus_zero x ≡ false → add f x (fin t 0 (pos 0)) ≡ x
unfolding add sum minus_zero
add_zero f nan t h z = refl
add_zero f (inf s) t h z = refl
add_zero f (fin s m e) t h z = go s t h z
  where
    a : ℕ
    a = m * up e * 1

    b : ℕ
    b = 0 * 1 * down e

    a_is : a ≡ m * up e
    a_is = mul-one (m * up e)

    b_is : b ≡ 0
    b_is = zero-mul (down e)

    rounded : (u : Bool) (n : ℕ) → T (fits f (fin u m e)) → n ≡ a → round f u n (down e * 1) ≡ fin u m e
    rounded u n k q = rw (q, a_is, mul-one (down e)) (own f u m e k)

    go : (u v : Bool) → T (fits f (fin u m e)) → minus_zero (fin u m e) ≡ false → cond (beq u v) (round f u (a + b) (down e * 1)) (cond (ltb a b) (round f v (b - a) (down e * 1)) (round f (u && ltb b a) (a - b) (down e * 1))) ≡ fin u m e
    go true true k w = rounded true (a + b) k (omega (arith, b_is))
    go false false k w = rounded false (a + b) k (omega (arith, b_is))
    go false true k w = rw (le-ltb a b (omega (arith, b_is))) (rounded false (a - b) k (omega (arith, b_is)))
    go true false k w = rw (le-ltb a b (omega (arith, b_is)), lt-ltb b a (omega (arith, a_is, b_is, below_zero m e w))) (rounded true (a - b) k (omega (arith, b_is)))

-- so it is, unless it is a NaN or an infinity, at least one of the format's smallest values from another sum that differs
has_sign : (x : Float) (a c : ℕ) → HasValue x false a c → minus_zero x ≡ false
unfolding minus_zero
has_sign nan a c h = absurd h
has_sign (inf t) a c h = absurd h
has_sign (fin false m e) a c h = refl
has_sign (fin true m e) a c h = never (sym h.0)

has_size : (x : Float) (a c : ℕ) → HasValue x true a c → 0 < a → minus_zero x ≡ false
unfolding minus_zero
has_size nan a c h p = absurd h
has_size (inf t) a c h p = absurd h
has_size (fin false m e) a c h p = refl
has_size (fin true zero e) a c h p = absurd (lt_irrefl 0 (subst (λ (z : ℕ). 0 < z) (sym h.1 ∙ ap (λ (y : ℕ). y * c) (zero-mul (up e)) ∙ zero-mul c) (mul-pos p (down_pos e))))
has_size (fin true (suc m) e) a c h p = refl

-- what is rounded with no sign
plain : (f : Format) (a c : ℕ) → minus_zero (round f false a c) ≡ false
unfolding units minus_zero
plain f a c = subst (λ (x : Float). minus_zero x ≡ false) (sym (round_is f false a c)) (go (closest (a * 2 ^ low f) (c * 2 ^ k)) (ltb (closest (a * 2 ^ low f) (c * 2 ^ k) * 2 ^ k) (2 ^ (low f + suc (emax f)))))
  where
    k : ℕ
    k = size (a * 2 ^ low f / c) - prec f

    go : (q : ℕ) (b : Bool) → minus_zero (cond b (odd (suc (prec f)) false q k (low f)) (inf false)) ≡ false
    go q true = has_sign (odd (suc (prec f)) false q k (low f)) (q * 2 ^ k) (2 ^ low f) (odd_sign (suc (prec f)) false q k (low f))
    go q false = refl

-- what is rounded with a sign, if it is at least the format's smallest value
large : (f : Format) (a c : ℕ) → 0 < c → c ≤ a * 2 ^ low f → minus_zero (round f true a c) ≡ false
unfolding units minus_zero
large f a c p h = subst (λ (x : Float). minus_zero x ≡ false) (sym (round_is f true a c)) (go (closest n u) some (ltb (closest n u * 2 ^ k) (2 ^ (low f + suc (emax f)))))
  where
    n : ℕ
    n = a * 2 ^ low f

    k : ℕ
    k = size (n / c) - prec f

    u : ℕ
    u = c * 2 ^ k

    whole : 1 ≤ n / c
    whole = (le-div_iff_mul-le p).1 (subst (λ (z : ℕ). z ≤ n) (sym (one-mul c)) h)

    digits : k < size (n / c)
    digits = ⊎_elim (λ g. absurd (omega (arith, whole, subst (λ (z : ℕ). n / c < 2 ^ z) (le_zero g) (size-lt (n / c))))) (λ g. omega (arith, two f)) (le_or_lt (size (n / c)) 0)
      where
        le_zero : size (n / c) ≤ 0 → size (n / c) ≡ 0
        le_zero g = omega arith

    u_le : u ≤ n
    u_le = subst (λ (z : ℕ). z ≤ n) (mul_comm (2 ^ k) c) ((le-div_iff_mul-le p).0 (size_reaches (n / c) k digits))

    some : 0 < closest n u
    some = le_trans ((le-div_iff_mul-le (mul-pos p (pow_pos k))).1 (subst (λ (z : ℕ). z ≤ n) (sym (one-mul u)) u_le)) (nearest-ge (n / u) (compare (n % u * 2) u))

    go : (q : ℕ) → 0 < q → (b : Bool) → minus_zero (cond b (odd (suc (prec f)) true q k (low f)) (inf true)) ≡ false
    go q g true = has_size (odd (suc (prec f)) true q k (low f)) (q * 2 ^ k) (2 ^ low f) (odd_sign (suc (prec f)) true q k (low f)) (mul-pos g (pow_pos k))
    go q g false = refl

-- a sum of one that is not -0.0 is not either
add_kept : (f : Format) (x y : Float) → T (fits f x) → T (fits f y) → minus_zero x ≡ false → minus_zero (add f x y) ≡ false
unfolding add sum minus_zero
add_kept f nan y F G z = refl
add_kept f (inf s) nan F G z = refl
add_kept f (inf s) (inf t) F G z = go (beq s t)
  where
    go : (b : Bool) → minus_zero (cond b (inf s) nan) ≡ false
    go true = refl
    go false = refl
add_kept f (inf s) (fin t n d) F G z = refl
add_kept f (fin s m e) nan F G z = refl
add_kept f (fin s m e) (inf t) F G z = refl
add_kept f (fin s m e) (fin t n d) F G z = go s t z
  where
    a : ℕ
    a = m * up e * down d

    b : ℕ
    b = n * up d * down e

    c : ℕ
    c = down e * down d

    c_pos : 0 < c
    c_pos = mul-pos (down_pos e) (down_pos d)

    g : Grid f m e
    g = grid f s m e F

    h : Grid f n d
    h = grid f t n d G

    w : ℕ
    w = g.q * 2 ^ g.j

    v : ℕ
    v = h.q * 2 ^ h.j

    a_is : a * 2 ^ low f ≡ w * c
    a_is = mul_right_comm (m * up e) (down d) (2 ^ low f) ∙ ap (λ (z : ℕ). z * down d) g.is ∙ mul_assoc w (down e) (down d)

    b_is : b * 2 ^ low f ≡ v * c
    b_is = mul_right_comm (n * up d) (down e) (2 ^ low f) ∙ ap (λ (z : ℕ). z * down e) h.is ∙ mul_assoc v (down d) (down e) ∙ ap (λ (z : ℕ). v * z) (mul_comm (down d) (down e))

    both : 0 < a → c ≤ (a + b) * 2 ^ low f
    both p =
        let l : a - 0 ≤ a + b = omega arith in
        le_trans (gap a 0 w 0 c (2 ^ low f) (pow_pos (low f)) a_is (zero-mul (2 ^ low f) ∙ sym (zero-mul c)) p) (mul-le-mul_right (2 ^ low f) l)

    go : (u r : Bool) → minus_zero (fin u m e) ≡ false → minus_zero (cond (beq u r) (round f u (a + b) c) (cond (ltb a b) (round f r (b - a) c) (round f (u && ltb b a) (a - b) c))) ≡ false
    go false false z = plain f (a + b) c
    go true true z = large f (a + b) c c_pos (both (mul-pos (below_zero m e z) (down_pos d)))
    go false true z = pick (ltb a b) refl
      where
        pick : (p : Bool) → ltb a b ≡ p → minus_zero (cond p (round f true (b - a) c) (round f false (a - b) c)) ≡ false
        pick true q = large f (b - a) c c_pos (gap b a v w c (2 ^ low f) (pow_pos (low f)) b_is a_is (ltb-true a b q))
        pick false q = plain f (a - b) c
    go true false z = pick (ltb a b) (ltb b a) refl
      where
        pick : (p r : Bool) → ltb b a ≡ r → minus_zero (cond p (round f false (b - a) c) (round f r (a - b) c)) ≡ false
        pick true r q = plain f (b - a) c
        pick false true q = large f (a - b) c c_pos (gap a b w v c (2 ^ low f) (pow_pos (low f)) a_is b_is (ltb-true b a q))
        pick false false q = plain f (a - b) c

-- ---- a zero times a finite number

zero_product : (f : Format) (s t : Bool) (m n : ℕ) (e d : ℤ) → m * up e ≡ 0 → mul f (fin s m e) (fin t n d) ≡ fin (unlike s t) 0 (pos 0)
unfolding mul
zero_product f s t m n e d h = rw (h, zero-mul (n * up d)) (nothing f (unlike s t) (down e * down d) (mul-pos (down_pos e) (down_pos d)))

-- a sum so far: a number that fits, and is not -0.0
pub record Sum (s : Float) : Type 0 where
  pub fits_in : T (fits binary64 s)
  pub not_minus : minus_zero s ≡ false

pub sum_starts : Sum nought
unfolding fits minus_zero of_bits
sum_starts = record { fits_in = tt; not_minus = refl }

pub sum_more : (s y x : Float) → Sum s → Sum (add binary64 s (mul binary64 y x))
sum_more s y x h = record { fits_in = add-fits binary64 s (mul binary64 y x); not_minus = add_kept binary64 s (mul binary64 y x) h.fits_in (mul-fits binary64 y x) h.not_minus }

-- it stays
pub sum_stays : (s y x : Float) → Sum s → eq y nought ≡ true → finite x ≡ true → add binary64 s (mul binary64 y x) ≡ s
unfolding eq of_bits
sum_stays s nan x h z p = never z
sum_stays s (inf u) x h z p = never z
sum_stays s (fin u m e) nan h z p = never p
sum_stays s (fin u m e) (inf t) h z p = never p
sum_stays s (fin u m e) (fin t n d) h z p = rw (zero_product binary64 u t m n e d (none u m e z)) (add_zero binary64 s (unlike u t) h.fits_in h.not_minus)
