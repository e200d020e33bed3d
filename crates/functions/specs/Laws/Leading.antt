-- The 53 leading digits of a float above 0, and how many digits it has in units of 2 ^ -1074: from the field and the digits, a subnormal's moved up. Assumes nothing.
use Rattle.std.specs.Prelude.{◌≡◌, ℕ, zero, suc, ◌+◌, ◌-◌, ◌*◌, ◌/◌, ◌%◌, ◌^◌, ◌<◌, ◌≤◌, Bool, true, false, not, T, nat_le, to_bits, Float}
use Rattle.std.proofs.Common.{sym, ap, ◌∙◌, subst, le_antisymm, lt_of_not-le, not-le_of_lt, mul-le-mul_right, mul-lt-mul_of_pos_right, lt_of_mul-lt-mul_right, mul_comm, mul_assoc, mul-div_cancel, mod-lt, arith, leb→le, lit<, pow-add, pow_pos, pow_mono}
use Rattle.std.proofs.Math.Nat.{pow-succ'}
use Rattle.std.proofs.Math.Dec.{nleb→lt}
use Rattle.std.specs.Int.Count.{count_leading_zeros}
use Rattle.std.proofs.lemmas.Nat.{leading_le}
use Rattle.std.specs.Float.{binary64}
use Rattle.std.specs.Float.Ieee.{fits, size}
use Rattle.std.specs.Float.Ieee.Digits.{size-lt, size-le}
use Rattle.std.specs.Float.Ieee.Positive.{num, den, den_pos, positive, positive-finite}
use Rattle.functions.specs.Words.{size_of, units_of}
use Rattle.functions.specs.Ln.{leading_of, ln_answer, ln_positive, Digits}
use Rattle.functions.specs.Laws.Packed.{leads}
use Rattle.functions.specs.Laws.Fields.{with_field, at_fields, field_under, some_size}

-- z is q * 2 ^ (c - 53), q of 53 digits
pub record Leading (z q c : ℕ) : Type 0 where
  pub same : z * 2 ^ 53 ≡ q * 2 ^ c
  pub least : 2 ^ 52 ≤ q
  pub most : q < 2 ^ 53
  pub few : c ≤ 2098

with_leading : (x t : ℕ) → 1 ≤ x → size_of x t * 2 ^ 53 ≡ (t + 2 ^ 52) * 2 ^ (x + 52)
with_leading x t h =
    ap (λ (n : ℕ). n * 2 ^ 53) (with_field x t h)
    ∙ go (2 ^ (x - 1)) t
    ∙ ap (λ (n : ℕ). (t + 2 ^ 52) * n) (sym (pow-add 2 (x - 1) 53) ∙ ap (λ (n : ℕ). 2 ^ n) (one x h))
  where
    go : (p a : ℕ) → (2 ^ 52 + a) * p * 2 ^ 53 ≡ (a + 2 ^ 52) * (p * 2 ^ 53)
    go p a = omega arith

    one : (a : ℕ) → 1 ≤ a → a - 1 + 53 ≡ a + 52
    one a p = omega arith

pub normal_leads : (x t : ℕ) → 1 ≤ x → x ≤ 2046 → t < 2 ^ 52 → Leading (size_of x t) (t + 2 ^ 52) (x + 52)
normal_leads x t l h g = record { same = with_leading x t l; least = lower t; most = upper t g; few = few x h }
  where
    lower : (a : ℕ) → 2 ^ 52 ≤ a + 2 ^ 52
    lower a = omega arith

    upper : (a : ℕ) → a < 2 ^ 52 → a + 2 ^ 52 < 2 ^ 53
    upper a p = omega arith

    few : (a : ℕ) → a ≤ 2046 → a + 52 ≤ 2098
    few a p = omega arith

-- a subnormal has 12 leading zeros or more
pub zeros_many : (t : ℕ) → 0 < t → t < 2 ^ 52 → 12 ≤ count_leading_zeros 64 t
zeros_many t p h = lt_of_not-le (λ (g : count_leading_zeros 64 t ≤ 11). not-le_of_lt (small g) (leads t p (word t h)).least)
  where
    word : (n : ℕ) → n < 2 ^ 52 → n < 2 ^ 64
    word n q = omega arith

    small : count_leading_zeros 64 t ≤ 11 → t * 2 ^ count_leading_zeros 64 t < 2 ^ 63
    small g = go (2 ^ count_leading_zeros 64 t) (pow_mono g) (mul-lt-mul_of_pos_right h (pow_pos (count_leading_zeros 64 t)))
      where
        go : (Z : ℕ) → Z ≤ 2 ^ 11 → t * Z < 2 ^ 52 * Z → t * Z < 2 ^ 63
        go Z a b = omega arith

zeros_most : (t : ℕ) → 0 < t → t < 2 ^ 52 → count_leading_zeros 64 t ≤ 64
zeros_most t p h = leading_le 64 t

pub subnormal_leads : (t : ℕ) → 0 < t → t < 2 ^ 52 → Leading (size_of 0 t) (t * 2 ^ (count_leading_zeros 64 t - 11)) (64 - count_leading_zeros 64 t)
subnormal_leads t p h =
    let z = count_leading_zeros 64 t in
    let m = zeros_many t p h in
    let e : 2 ^ (z - 11) * 2 ^ 11 ≡ 2 ^ z = sym (pow-add 2 (z - 11) 11) ∙ ap (λ (n : ℕ). 2 ^ n) (back z m) in
    let l = leads t p (word t h) in
    record {
      same = ap (λ (n : ℕ). t * n) (ap (λ (n : ℕ). 2 ^ n) (sum z m (zeros_most t p h)) ∙ pow-add 2 (z - 11) (64 - z)) ∙ sym (mul_assoc t (2 ^ (z - 11)) (2 ^ (64 - z)));
      least = least (2 ^ (z - 11)) (2 ^ z) e l.least;
      most = most (2 ^ (z - 11)) (2 ^ z) e l.most;
      few = few z;
    }
  where
    word : (n : ℕ) → n < 2 ^ 52 → n < 2 ^ 64
    word n q = omega arith

    back : (a : ℕ) → 12 ≤ a → a - 11 + 11 ≡ a
    back a q = omega arith

    sum : (a : ℕ) → 12 ≤ a → a ≤ 64 → 53 ≡ a - 11 + (64 - a)
    sum a q r = omega arith

    few : (a : ℕ) → 64 - a ≤ 2098
    few a = omega arith

    least : (Z E : ℕ) → Z * 2 ^ 11 ≡ E → 2 ^ 63 ≤ t * E → 2 ^ 52 ≤ t * Z
    least Z E q r = go (t * Z) (subst (λ (n : ℕ). 2 ^ 63 ≤ n) (ap (λ (n : ℕ). t * n) (sym q) ∙ sym (mul_assoc t Z (2 ^ 11))) r)
      where
        go : (x : ℕ) → 2 ^ 63 ≤ x * 2 ^ 11 → 2 ^ 52 ≤ x
        go x s = omega arith

    most : (Z E : ℕ) → Z * 2 ^ 11 ≡ E → t * E < 2 ^ 64 → t * Z < 2 ^ 53
    most Z E q r = go (t * Z) (subst (λ (n : ℕ). n < 2 ^ 64) (ap (λ (n : ℕ). t * n) (sym q) ∙ sym (mul_assoc t Z (2 ^ 11))) r)
      where
        go : (x : ℕ) → x * 2 ^ 11 < 2 ^ 64 → x < 2 ^ 53
        go x s = omega arith

-- ---- these are `size` and `leading_of`
pub size_is : (z q c : ℕ) → z * 2 ^ 53 ≡ q * 2 ^ c → 2 ^ 52 ≤ q → q < 2 ^ 53 → size z ≡ c
size_is z q c e lo hi =
    let below : z < 2 ^ c = lt_of_mul-lt-mul_right (2 ^ 53) (subst (λ (n : ℕ). n < 2 ^ c * 2 ^ 53) (sym e) (subst (λ (n : ℕ). q * 2 ^ c < n) (mul_comm (2 ^ 53) (2 ^ c)) (mul-lt-mul_of_pos_right hi (pow_pos c)))) in
    le_antisymm (size-le z c below) (lt_up c (size z) (lt_of_not-le (λ (g : suc (size z) ≤ c). not-le_of_lt (twice (size-lt z) (pow_mono g)) (half (mul-le-mul_right (2 ^ c) lo)))))
  where
    lt_up : (x y : ℕ) → x < suc y → x ≤ y
    lt_up x y p = omega arith

    half : 2 ^ 52 * 2 ^ c ≤ q * 2 ^ c → 2 ^ c ≤ 2 * z
    half p = go (2 ^ c) (q * 2 ^ c) e p
      where
        go : (x y : ℕ) → z * 2 ^ 53 ≡ y → 2 ^ 52 * x ≤ y → x ≤ 2 * z
        go x y r s = omega arith

    twice : z < 2 ^ size z → 2 ^ suc (size z) ≤ 2 ^ c → 2 * z < 2 ^ c
    twice p r = go (2 ^ size z) (2 ^ suc (size z)) (2 ^ c) p (pow-succ' 2 (size z)) r
      where
        go : (x y w : ℕ) → z < x → y ≡ 2 * x → y ≤ w → 2 * z < w
        go x y w p q r = omega arith

leading_is : (z q c : ℕ) → z * 2 ^ 53 ≡ q * 2 ^ c → size z ≡ c → leading_of z ≡ q
leading_is z q c e s = ap (λ (n : ℕ). z * 2 ^ 53 / 2 ^ n) s ∙ ap (λ (n : ℕ). n / 2 ^ c) e ∙ mul-div_cancel q (pow_pos c)

pub in_range : (q : ℕ) → 2 ^ 52 ≤ q → q < 2 ^ 53 → Digits (nat_le (3 * 2 ^ 51) q) q
in_range q lo hi = go (nat_le (3 * 2 ^ 51) q) (leb→le (3 * 2 ^ 51) q) (nleb→lt (3 * 2 ^ 51) q)
  where
    go : (b : Bool) → (T b → 3 * 2 ^ 51 ≤ q) → (T (not b) → q < 3 * 2 ^ 51) → Digits b q
    go true y n = (y tt, hi)
    go false y n = (lo, n tt)

-- the answer of ln by any leading digits
pub answer_is : (x : Float) (z q c : ℕ) → num x * 2 ^ 1074 ≡ z * den x → Leading z q c → ln_positive x ≡ ln_answer c q (nat_le (3 * 2 ^ 51) q)
unfolding ln_positive
answer_is x z q c e l =
    let u : units_of x ≡ z = ap (λ (n : ℕ). n / den x) e ∙ mul-div_cancel z (den_pos x) in
    let s : size z ≡ c = size_is z q c l.same l.least l.most in
    ap (λ (n : ℕ). ln_answer (size n) (leading_of n) (nat_le (3 * 2 ^ 51) (leading_of n))) u
    ∙ ap (λ (n : ℕ). ln_answer n (leading_of z) (nat_le (3 * 2 ^ 51) (leading_of z))) s
    ∙ ap (λ (n : ℕ). ln_answer c n (nat_le (3 * 2 ^ 51) n)) (leading_is z q c l.same s)

-- x is q * 2 ^ (c - 1127)
pub scaled : (n z d q c : ℕ) → n * 2 ^ 1074 ≡ z * d → Leading z q c → n * 2 ^ 1127 ≡ q * 2 ^ c * d
scaled n z d q c e l = sym (mul_assoc n (2 ^ 1074) (2 ^ 53)) ∙ ap (λ (m : ℕ). m * 2 ^ 53) e ∙ swap z d (2 ^ 53) ∙ ap (λ (m : ℕ). m * d) l.same
  where
    swap : (a b c : ℕ) → a * b * c ≡ a * c * b
    swap a b c = omega arith

-- every float above 0 has them
pub leading : (x : Float) → T (fits binary64 x) → T (positive x) → (q : ℕ) × (c : ℕ) × (n : ℕ) × (num x * 2 ^ 1074 ≡ n * den x) × Leading n q c
leading x F p =
    let b = to_bits binary64 x in
    let f = positive-finite x p in
    let e = (at_fields x F f).1 in
    go (b % 2 ^ 63 / 2 ^ 52) (b % 2 ^ 52) e (field_under x F f) (mod-lt b (lit< tt)) (some_size x (b % 2 ^ 63 / 2 ^ 52) (b % 2 ^ 52) p e)
  where
    go : (a t : ℕ) → num x * 2 ^ 1074 ≡ size_of a t * den x → a < 2047 → t < 2 ^ 52 → 1 ≤ a + t → (q : ℕ) × (c : ℕ) × (n : ℕ) × (num x * 2 ^ 1074 ≡ n * den x) × Leading n q c
    go zero t e h g l = (t * 2 ^ (count_leading_zeros 64 t - 11), 64 - count_leading_zeros 64 t, size_of 0 t, e, subnormal_leads t (omega arith) g)
    go (suc a) t e h g l = (t + 2 ^ 52, suc a + 52, size_of (suc a) t, e, normal_leads (suc a) t (one a) (few a h) g)
      where
        one : (a : ℕ) → 1 ≤ suc a
        one a = omega arith

        few : (a : ℕ) → suc a < 2047 → suc a ≤ 2046
        few a p = omega arith
