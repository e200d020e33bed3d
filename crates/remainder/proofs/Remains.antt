-- The kit's remainder from the units of both floats, and where it is no number. Clients cite scaled, remains, blank, none, past and alike.
use Rattle.std.specs.Prelude.{◌≡◌, refl, ℕ, zero, suc, ◌*◌, ◌%◌, ◌^◌, ◌<◌, true, false, cond, T, eqb, Float}
use Rattle.std.proofs.Common.{sym, ap, ◌∙◌, mul-pos, mul_assoc, mul_right_comm, mul-div_cancel, add-zero, zero-mul, arith, pow_pos}
use Rattle.std.proofs.Math.Nat.{mul-mod_left}
use Rattle.std.specs.Float.{nan, inf, fin, binary64}
use Rattle.std.specs.Float.Ieee.{round, rem, up, down, eq, fits}
use Rattle.std.specs.Float.Ieee.Scale.{finite}
use borrow.Author.Tests.{ne_eqb}
use lib.Arith.{mod-mul}
use lib.Ieee.Fits.{up_pos, down_pos}
use lib.Ieee.Scale.{round_same}
use Rattle.num.specs.Floats.{sign}
use Rattle.exact.specs.Exact.{units}
use Rattle.exact.specs.Laws.Units.{units_exact}

-- a common factor goes through the division
pub scaled : (x n c : ℕ) → 0 < n → 0 < c → x % n * c ≡ (x * c) % (n * c)
scaled x n c p q = sym (mod-mul (x * c) p q ∙ rw (mul-mod_left x c, mul-div_cancel x q) (add-zero (x % n * c)))

-- x is not finite
pub blank : (x y : Float) → finite x ≡ false → nan ≡ rem binary64 x y
unfolding rem
blank nan y h = refl
blank (inf s) y h = refl
blank (fin s m e) y h = absurd (cc h)

-- y is infinite
pub past : (x y : Float) → finite x ≡ true → finite y ≡ false → eq y y ≡ true → x ≡ rem binary64 x y
unfolding rem eq
past nan y h k e = absurd (cc h)
past (inf s) y h k e = absurd (cc h)
past (fin s m g) nan h k e = absurd (cc e)
past (fin s m g) (inf t) h k e = refl
past (fin s m g) (fin t n d) h k e = absurd (cc k)

-- y is no number
pub none : (x y : Float) → finite x ≡ true → finite y ≡ false → eq y y ≡ false → y ≡ rem binary64 x y
unfolding rem eq
none nan y h k e = absurd (cc h)
none (inf s) y h k e = absurd (cc h)
none (fin s m g) nan h k e = refl
none (fin s m g) (inf true) h k e = absurd (cc e)
none (fin s m g) (inf false) h k e = absurd (cc e)
none (fin s m g) (fin t n d) h k e = absurd (cc k)

-- no units, no digits
nought : (m u l : ℕ) → 0 < u → 0 < l → m * u * l ≡ 0 → m ≡ 0
nought zero u l p q h = refl
nought (suc m) u l p q h = absurd (ne (suc m * u * l) (mul-pos (mul-pos {m = suc m} {n = u} (omega arith) p) q) h)
  where
    ne : (a : ℕ) → 0 < a → a ≡ 0 → ⊥
    ne a p h = omega arith

-- y is a zero
pub alike : (x y : Float) → T (fits binary64 y) → finite x ≡ true → finite y ≡ true → units y ≡ 0 → nan ≡ rem binary64 x y
unfolding rem
alike nan y F h k z = absurd (cc h)
alike (inf s) y F h k z = absurd (cc h)
alike (fin s m e) nan F h k z = absurd (cc k)
alike (fin s m e) (inf t) F h k z = absurd (cc k)
alike (fin s m e) (fin t n d) F h k z =
    let q : n ≡ 0 = nought n (up d) (2 ^ 1074) (up_pos d) (pow_pos 1074) (units_exact (fin t n d) F tt ∙ ap (λ (w : ℕ). w * down d) z ∙ zero-mul (down d)) in
    rw (q) refl

-- two finite floats: the units of x, divided by those of y
pub remains : (x y : Float) → T (fits binary64 x) → T (fits binary64 y) → finite x ≡ true → finite y ≡ true → 0 < units y → rem binary64 x y ≡ round binary64 (sign x) (units x % units y) (2 ^ 1074)
unfolding rem
remains nan y F G h k z = absurd (cc h)
remains (inf s) y F G h k z = absurd (cc h)
remains (fin s m e) nan F G h k z = absurd (cc k)
remains (fin s m e) (inf t) F G h k z = absurd (cc k)
remains (fin s m e) (fin t n d) F G h k z =
    let X = units (fin s m e) in
    let Y = units (fin t n d) in
    let a : m * up e * 2 ^ 1074 ≡ X * down e = units_exact (fin s m e) F tt in
    let b : n * up d * 2 ^ 1074 ≡ Y * down d = units_exact (fin t n d) G tt in
    some n (up d) (2 ^ 1074) (Y * down d) (mul-pos z (down_pos d)) b (m * up e * down d) (down e * down d)
    ∙ round_same binary64 s (m * up e * down d % (n * up d * down e)) (down e * down d) (X % Y) (2 ^ 1074) (mul-pos (down_pos e) (down_pos d)) (pow_pos 1074)
    (over (m * up e) (n * up d) (down e) (down d) X Y (2 ^ 1074) (down_pos e) (down_pos d) z (pow_pos 1074) a b)
  where
    -- so n is not 0
    some : (n u l w : ℕ) → 0 < w → n * u * l ≡ w → (p q : ℕ) → cond (eqb n 0) nan (round binary64 s (p % (n * up d * down e)) q) ≡ round binary64 s (p % (n * up d * down e)) q
    some zero u l w o g p q = absurd (ne w o (sym g ∙ ap (λ (v : ℕ). v * l) (zero-mul u) ∙ zero-mul l))
      where
        ne : (w : ℕ) → 0 < w → w ≡ 0 → ⊥
        ne w o g = omega arith
    some (suc n) u l w o g p q = rw (ne_eqb (suc n) 0 (λ e. ne (suc n) (omega arith) e)) refl
      where
        ne : (w : ℕ) → 0 < w → w ≡ 0 → ⊥
        ne w o g = omega arith

    over : (A B D E X Y L : ℕ) → 0 < D → 0 < E → 0 < Y → 0 < L → A * L ≡ X * D → B * L ≡ Y * E → A * E % (B * D) * L ≡ X % Y * (D * E)
    over A B D E X Y L p q r o f g =
        scaled (A * E) (B * D) L (mul-pos (pos B L (Y * E) (mul-pos r q) g) p) o
        ∙ ap (λ (v : ℕ). v % (B * D * L)) (mul_right_comm A E L ∙ ap (λ (v : ℕ). v * E) f ∙ mul_assoc X D E)
        ∙ ap (λ (v : ℕ). (X * (D * E)) % v) (mul_right_comm B D L ∙ ap (λ (v : ℕ). v * D) g ∙ turn Y E D)
        ∙ sym (scaled X Y (D * E) r (mul-pos p q))
      where
        turn : (y e d : ℕ) → y * e * d ≡ y * (d * e)
        turn y e d = omega arith

        pos : (b l w : ℕ) → 0 < w → b * l ≡ w → 0 < b
        pos zero l w u v = absurd (ne w u (sym v ∙ zero-mul l))
          where
            ne : (w : ℕ) → 0 < w → w ≡ 0 → ⊥
            ne w o g = omega arith
        pos (suc b) l w u v = omega arith
