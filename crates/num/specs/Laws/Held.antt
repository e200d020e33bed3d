-- A float that a format holds: its value in the format's smallest values, and that the value rounds to the float itself. Clients cite Grid, grid, own, nothing and gap. Assumes nothing.
use Rattle.std.specs.Prelude.{ℕ, zero, suc, ◌+◌, ◌-◌, ◌*◌, ◌/◌, ◌%◌, ◌^◌, ◌≤◌, ◌<◌, ◌≡◌, refl, Bool, ◌&&◌, cond, T, ltb, leb, eqb, ℤ, pos, negsuc, Float}
use Rattle.std.proofs.Common.{sym, ap, ◌∙◌, subst, ⊎_elim, lt_irrefl, lt_of_lt_of_le, zero-mul, suc-mul, mul-one, mul_comm, mul_assoc, mul_right_comm, mul-le-mul_right, mul-lt-mul_of_pos_right, lt_of_mul-lt-mul_right, arith, ltb→lt, leb→le, pow-add, pow_pos, pow_mono, shl_lt}
use Rattle.std.proofs.Math.Nat.{mul-sub}
use Rattle.std.proofs.Math.Pow.{pow-lt}
use Rattle.std.specs.Float.{nan, inf, fin, Format}
use Rattle.std.specs.Float.Ieee.{prec, emax, low, hid, top, up, down, size, round, fits, of_bits, to_bits}
use Rattle.std.specs.Float.Ieee.Bits.{of_bits-to_bits}
use Rattle.std.specs.Float.Ieee.Exact.{HasValue, round_exact}
use Rattle.std.specs.Float.Ieee.Fits.{reach, down_pos, and_l, and_r, round-fits}
use Rattle.std.specs.Float.Ieee.Nearest.{div_same}
use Rattle.num.specs.Laws.Less.{le_or_lt}

-- the bits of n of the format's smallest values
abbrev bits_of : Format → Bool → ℕ → ℕ
bits_of f s n = cond s (top f) 0 + (size n - prec f) * hid f + n / 2 ^ (size n - prec f)

bits_are : (f : Format) (x : Float) (s : Bool) (a c : ℕ) → 0 < c → HasValue x s a c → to_bits f x ≡ bits_of f s (a * 2 ^ low f / c)
unfolding to_bits
bits_are f nan s a c p h = absurd h
bits_are f (inf t) s a c p h = absurd h
bits_are f (fin t m e) s a c p h =
    (λ i. bits_of f (h.0 i) (m * up e * 2 ^ low f / down e))
    ∙ ap (bits_of f s)
    (div_same (m * up e * 2 ^ low f) (down e) (a * 2 ^ low f) c (down_pos e) p (mul_right_comm (m * up e) (2 ^ low f) c ∙ ap (λ (z : ℕ). z * 2 ^ low f) h.1 ∙ mul_right_comm a (down e) (2 ^ low f)))

unique : (f : Format) (x y : Float) (s : Bool) (a c : ℕ) → 0 < c → T (fits f x) → T (fits f y) → HasValue x s a c → HasValue y s a c → x ≡ y
unique f x y s a c p F G h k = sym (of_bits-to_bits f x F) ∙ ap (of_bits f) (bits_are f x s a c p h ∙ sym (bits_are f y s a c p k)) ∙ of_bits-to_bits f y G

-- m * 2 ^ e is q * 2 ^ j of the format's smallest values
pub record Grid (f : Format) (m : ℕ) (e : ℤ) : Type 0 where
  pub q : ℕ
  pub j : ℕ
  pub small : q < 2 ^ prec f
  pub fine : q * 2 ^ j < 2 ^ (low f + suc (emax f))
  pub is : m * up e * 2 ^ low f ≡ q * 2 ^ j * down e

exponent : (i j : ℕ) → 2 ^ i ≤ 2 ^ j → i ≤ j
exponent i j h = ⊎_elim (λ l. l) (λ l. absurd (lt_irrefl (2 ^ j) (lt_of_lt_of_le (pow-lt l) h))) (le_or_lt i j)

pub grid : (f : Format) (s : Bool) (m : ℕ) (e : ℤ) → T (fits f (fin s m e)) → Grid f m e
unfolding fits
grid f s zero e h = record { q = 0; j = 0; small = pow_pos (prec f); fine = pow_pos (low f + suc (emax f)); is = ap (λ (z : ℕ). z * 2 ^ low f) (zero-mul (up e)) ∙ zero-mul (2 ^ low f) ∙ sym (zero-mul (down e)) }
grid f s (suc m) (pos a) h =
    let A = eqb (suc m % 2) 1 in
    let B = ltb (suc m) (2 ^ prec f) in
    let C = leb 1 (2 ^ low f) in
    let D = ltb (suc m * 2 ^ a) (2 ^ suc (emax f) * 1) in
    let l : suc m * 2 ^ a * 2 ^ low f ≡ suc m * 2 ^ (a + low f) = mul_assoc (suc m) (2 ^ a) (2 ^ low f) ∙ ap (λ (z : ℕ). suc m * z) (sym (pow-add 2 a (low f))) in
    let u : suc m * 2 ^ a < 2 ^ suc (emax f) = subst (λ (z : ℕ). suc m * 2 ^ a < z) (mul-one (2 ^ suc (emax f))) (ltb→lt (suc m * 2 ^ a) (2 ^ suc (emax f) * 1) (and_r (A && B && C) D h)) in
    let r : 2 ^ suc (emax f) * 2 ^ low f ≡ 2 ^ (low f + suc (emax f)) = mul_comm (2 ^ suc (emax f)) (2 ^ low f) ∙ sym (pow-add 2 (low f) (suc (emax f))) in
    record {
      q = suc m;
      j = a + low f;
      small = ltb→lt (suc m) (2 ^ prec f) (and_r A B (and_l (A && B) C (and_l (A && B && C) D h)));
      fine = subst (λ (z : ℕ). z < 2 ^ (low f + suc (emax f))) l (subst (λ (z : ℕ). suc m * 2 ^ a * 2 ^ low f < z) r (mul-lt-mul_of_pos_right u (pow_pos (low f))));
      is = l ∙ sym (mul-one (suc m * 2 ^ (a + low f)));
    }
grid f s (suc m) (negsuc a) h =
    let A = eqb (suc m % 2) 1 in
    let B = ltb (suc m) (2 ^ prec f) in
    let C = leb (2 ^ suc a) (2 ^ low f) in
    let D = ltb (suc m * 1) (2 ^ suc (emax f) * 2 ^ suc a) in
    let small : suc m < 2 ^ prec f = ltb→lt (suc m) (2 ^ prec f) (and_r A B (and_l (A && B) C (and_l (A && B && C) D h))) in
    let b : suc a ≤ low f = exponent (suc a) (low f) (leb→le (2 ^ suc a) (2 ^ low f) (and_r (A && B) C (and_l (A && B && C) D h))) in
    let j = low f - suc a in
    let k : j + suc a ≡ low f = omega arith in
    let p : prec f + j ≤ low f + suc (emax f) = omega (arith, reach f) in
    record {
      q = suc m;
      j = j;
      small = small;
      fine = lt_of_lt_of_le (shl_lt (prec f) j small) (pow_mono p);
      is = ap (λ (z : ℕ). z * 2 ^ low f) (mul-one (suc m)) ∙ ap (λ (z : ℕ). suc m * z) (sym (ap (λ (z : ℕ). 2 ^ z) k) ∙ pow-add 2 j (suc a)) ∙ sym (mul_assoc (suc m) (2 ^ j) (2 ^ suc a));
    }

-- so the value of a float that fits rounds to it
pub own : (f : Format) (s : Bool) (m : ℕ) (e : ℤ) → T (fits f (fin s m e)) → round f s (m * up e) (down e) ≡ fin s m e
own f s m e h =
    let g = grid f s m e h in
    unique f (round f s (m * up e) (down e)) (fin s m e) s (m * up e) (down e) (down_pos e) (round-fits f s (m * up e) (down e)) h
    (round_exact f s (m * up e) (down e) g.q g.j (down_pos e) g.small g.fine g.is)
    (refl, refl)

zero_fits : (f : Format) (s : Bool) → T (fits f (fin s 0 (pos 0)))
unfolding fits
zero_fits f s = tt

-- and nothing to a zero
pub nothing : (f : Format) (s : Bool) (d : ℕ) → 0 < d → round f s 0 d ≡ fin s 0 (pos 0)
nothing f s d p =
    unique f (round f s 0 d) (fin s 0 (pos 0)) s 0 d p (round-fits f s 0 d) (zero_fits f s)
    (round_exact f s 0 d 0 0 p (pow_pos (prec f)) (pow_pos (low f + suc (emax f))) (zero-mul (2 ^ low f) ∙ sym (zero-mul d)))
    (refl, zero-mul d)

-- two different multiples of c / L differ by that at least
pub gap : (a b w v c L : ℕ) → 0 < L → a * L ≡ w * c → b * L ≡ v * c → b < a → c ≤ (a - b) * L
gap a b w v c L p x y h =
    let i : v * c < w * c = rw (← x, ← y) (mul-lt-mul_of_pos_right h p) in
    let g : suc v * c ≤ w * c = mul-le-mul_right c (lt_of_mul-lt-mul_right c i) in
    let d : (a - b) * L ≡ a * L - b * L = mul_comm (a - b) L ∙ mul-sub L a b ∙ (λ i. mul_comm L a i - mul_comm L b i) in
    omega (arith, suc-mul v c)
