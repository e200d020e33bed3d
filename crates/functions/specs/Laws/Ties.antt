-- No float lies in the middle of two multiples of L or of Q: their odd parts have 62 digits, and a float has 53. So k is nearest, and no other number is. Assumes nothing.
use Rattle.std.specs.Prelude.{◌≡◌, ℕ, zero, suc, ◌+◌, ◌-◌, ◌*◌, ◌/◌, ◌%◌, ◌^◌, ◌<◌, ◌≤◌, Bool, true, false, not, T, ◌≢◌, nat_le, to_bits, Float}
use Rattle.std.proofs.Common.{sym, ap, ◌∙◌, subst, le_trans, le_antisymm, lt_of_lt_of_le, lt_of_not-le, not-le_of_lt, mul-pos, mul-le-mul_left, mul-le-mul_right, mul_assoc, mul-one, sub-add_cancel, mod-lt, le_of_eq, arith, leb→le, lit<, pow-add, pow_pos}
use Rattle.std.proofs.Math.Nat.{eq_of_mul-eq-mul_right}
use Rattle.std.proofs.Math.Dec.{nleb→lt}
use Rattle.std.specs.Float.{binary64}
use Rattle.std.specs.Float.Ieee.{fits}
use Rattle.std.specs.Float.Ieee.Scale.{finite}
use Rattle.std.specs.Float.Ieee.Positive.{num, den, den_pos}
use Rattle.functions.specs.Fraction.{apart}
use Rattle.functions.specs.Reduction.{left_of, k_of, Nearest}
use Rattle.functions.specs.Words.{size_of}
use Rattle.functions.specs.Laws.Fields.{with_field, at_fields}
use Rattle.functions.specs.Laws.Reduced.{left_small}

-- an odd number times a power of two is no smaller number times another
odd_part : (q u P v : ℕ) → q * 2 ^ u ≡ P * 2 ^ v → P % 2 ≡ 1 → P ≤ q
odd_part q u P v e o = go (nat_le u v) (leb→le u v) (nleb→lt u v)
  where
    more : u ≤ v → q ≡ P * 2 ^ (v - u)
    more h = eq_of_mul-eq-mul_right (2 ^ u) (pow_pos u) q (P * 2 ^ (v - u)) (e ∙ ap (λ (n : ℕ). P * n) (ap (λ (n : ℕ). 2 ^ n) (sym (sub-add_cancel h)) ∙ pow-add 2 (v - u) u) ∙ sym (mul_assoc P (2 ^ (v - u)) (2 ^ u)))

    one : (n : ℕ) → P * 1 ≤ P * 2 ^ n
    one n = mul-le-mul_left P (pow_pos n)

    fewer : v < u → q * 2 ^ (u - v - 1) * 2 ≡ P
    fewer h =
        eq_of_mul-eq-mul_right (2 ^ v) (pow_pos v) (q * 2 ^ (u - v - 1) * 2) P
        (swap q (2 ^ (u - v - 1)) (2 ^ v) ∙ ap (λ (n : ℕ). q * n) (sym (pow-add 2 (u - v - 1) (1 + v) ∙ ap (λ (n : ℕ). 2 ^ (u - v - 1) * n) (pow-add 2 1 v)) ∙ ap (λ (n : ℕ). 2 ^ n) (sum u v h)) ∙ e)
      where
        swap : (a b c : ℕ) → a * b * 2 * c ≡ a * (b * (2 ^ 1 * c))
        swap a b c = omega arith

        sum : (a b : ℕ) → b < a → a - b - 1 + (1 + b) ≡ a
        sum a b p = omega arith

    even : (a : ℕ) → a * 2 ≡ P → P % 2 ≢ 1
    even a f g = omega arith

    go : (t : Bool) → (T t → u ≤ v) → (T (not t) → v < u) → P ≤ q
    go true y n = subst (λ (a : ℕ). P ≤ a) (sym (more (y tt))) (le_trans (le_of_eq (sym (mul-one P))) (one (v - u)))
    go false y n = absurd (even (q * 2 ^ (u - v - 1)) (fewer (n tt)) o)

-- a float's size is q 2 ^ s units, q of at most 53 digits
digits_of_lem : (a t : ℕ) → t < 2 ^ 52 → (q : ℕ) × (s : ℕ) × (size_of a t ≡ q * 2 ^ s) × (q < 2 ^ 53)
digits_of_lem zero t h = (t, 0, one t, wide t h)
  where
    one : (n : ℕ) → n ≡ n * 2 ^ 0
    one n = omega arith

    wide : (n : ℕ) → n < 2 ^ 52 → n < 2 ^ 53
    wide n p = omega arith
digits_of_lem (suc a) t h = (2 ^ 52 + t, suc a - 1, with_field (suc a) t (first a), wide t h)
  where
    first : (n : ℕ) → 1 ≤ suc n
    first n = omega arith

    wide : (n : ℕ) → n < 2 ^ 52 → 2 ^ 52 + n < 2 ^ 53
    wide n p = omega arith

-- twice x over the modulus o 2 ^ i / 2 ^ 64 is no odd number
pub never : (x : Float) → T (fits binary64 x) → T (finite x) → (o i : ℕ) → o % 2 ≡ 1 → 2 ^ 53 ≤ o → (j : ℕ) → 2 * (num x * 2 ^ 64) ≢ (2 * j + 1) * (o * 2 ^ i * den x)
never x F f o i odd big j e =
    let b = to_bits binary64 x in
    let t = digits_of_lem (b % 2 ^ 63 / 2 ^ 52) (b % 2 ^ 52) (mod-lt b (lit< tt)) in
    let q = t.0 in
    let s = t.1 in
    let size : num x * 2 ^ 1074 ≡ q * 2 ^ s * den x = (at_fields x F f).1 ∙ ap (λ (n : ℕ). n * den x) t.2 in
    not-le_of_lt (lt_of_lt_of_le t.3 (le_trans big (at_least o j)))
    (odd_part q (s + 65) ((2 * j + 1) * o) (i + 1074)
    (eq_of_mul-eq-mul_right (den x) (den_pos x) (q * 2 ^ (s + 65)) ((2 * j + 1) * o * 2 ^ (i + 1074))
    (ap (λ (n : ℕ). q * n * den x) (pow-add 2 s 65) ∙ front q (2 ^ s) (2 ^ 65) (den x) ∙ ap (λ (n : ℕ). n * 2 ^ 65) (sym size)
    ∙ middle (num x) (2 ^ 1074) (2 ^ 64) ∙ ap (λ (n : ℕ). n * 2 ^ 1074) e ∙ back (2 * j + 1) o (2 ^ i) (den x) (2 ^ 1074) ∙ ap (λ (n : ℕ). (2 * j + 1) * o * n * den x) (sym (pow-add 2 i 1074))))
    (odd_times o j odd))
  where
    at_least : (a k : ℕ) → a ≤ (2 * k + 1) * a
    at_least a k = omega arith

    front : (a c d g : ℕ) → a * (c * d) * g ≡ a * c * g * d
    front a c d g = omega arith

    middle : (a c d : ℕ) → a * c * (2 * d) ≡ 2 * (a * d) * c
    middle a c d = omega arith

    back : (a c d g h : ℕ) → a * (c * d * g) * h ≡ a * c * (d * h) * g
    back a c d g h = omega arith

    odd_times : (a k : ℕ) → a % 2 ≡ 1 → (2 * k + 1) * a % 2 ≡ 1
    odd_times a k h = go (k * a) a h (spread k a)
      where
        spread : (k a : ℕ) → (2 * k + 1) * a ≡ 2 * (k * a) + a
        spread k a = omega arith

        go : (n a : ℕ) → a % 2 ≡ 1 → (2 * k + 1) * a ≡ 2 * n + a → (2 * k + 1) * a % 2 ≡ 1
        go n a p r = ap (λ (m : ℕ). m % 2) r ∙ last n a p
          where
            last : (n a : ℕ) → a % 2 ≡ 1 → (2 * n + a) % 2 ≡ 1
            last n a p = omega arith

-- at most half of e from k e, and at half of it for no multiple: less than half
inside : (N e k : ℕ) → 2 * apart N (k * e) ≤ e → ((j : ℕ) → 2 * N ≢ (2 * j + 1) * e) → 2 * apart N (k * e) < e
inside N e k h none = lt_of_not-le (λ (g : e ≤ 2 * apart N (k * e)). go k (nat_le (k * e) N) (leb→le (k * e) N) (nleb→lt (k * e) N) h g)
  where
    over : (j : ℕ) → j * e ≤ N → 2 * apart N (j * e) ≤ e → e ≤ 2 * apart N (j * e) → 2 * N ≡ (2 * j + 1) * e
    over j p q r = omega arith

    under : (j : ℕ) → N < suc j * e → 2 * apart N (suc j * e) ≤ e → e ≤ 2 * apart N (suc j * e) → 2 * N ≡ (2 * j + 1) * e
    under j p q r = omega arith

    first : N < 0 * e → ⊥
    first p = omega arith

    go : (j : ℕ) (t : Bool) → (T t → j * e ≤ N) → (T (not t) → N < j * e) → 2 * apart N (j * e) ≤ e → e ≤ 2 * apart N (j * e) → ⊥
    go j true y n p q = none j (over j (y tt) p q)
    go zero false y n p q = first (n tt)
    go (suc j) false y n p q = none j (under j (n tt) p q)

-- less than half of e from k e, so from no other multiple at most half
alone : (N e k j : ℕ) → 2 * apart N (k * e) < e → 2 * apart N (j * e) ≤ e → j ≡ k
alone N e k j h g = le_antisymm (up_to j k (lt_of_not-le (λ (p : suc k ≤ j). above (mul-le-mul_right e p)))) (up_to k j (lt_of_not-le (λ (p : suc j ≤ k). below (mul-le-mul_right e p))))
  where
    up_to : (a b : ℕ) → a < suc b → a ≤ b
    up_to a b p = omega arith

    above : suc k * e ≤ j * e → ⊥
    above p = omega arith

    below : suc j * e ≤ k * e → ⊥
    below p = omega arith

-- so k is nearest to x over such a modulus, and no other number is
pub nearest_only : (x : Float) → T (fits binary64 x) → T (finite x) → (o i : ℕ) → o % 2 ≡ 1 → 2 ^ 53 ≤ o → Nearest (o * 2 ^ i) x (k_of (o * 2 ^ i) x)
unfolding left_of
nearest_only x F f o i odd big =
    let M = o * 2 ^ i in
    let N = num x * 2 ^ 64 in
    let e = M * den x in
    let ep : 0 < e = mul-pos (mul-pos (lt_of_lt_of_le (lit< {m = 0} {n = 2 ^ 53} tt) big) (pow_pos i)) (den_pos x) in
    let h : 2 * apart N (k_of M x * e) < e = inside N e (k_of M x) (left_small M (num x) (den x) ep (den_pos x)) (never x F f o i odd big) in
    record { half = h; only = λ (j : ℕ) (g : 2 * apart N (j * e) ≤ e). alone N e (k_of M x) j h g }
