-- Limbs times a power and over a power, a factor at a time; and the limbs of a number below 2 ^ 64. Assumes nothing.
use mathlib.Core.Path.{◌≡◌, refl, sym, ap, ◌∙◌, subst}
use mathlib.Core.Bool.{Bool, true, ◌&&◌}
use mathlib.Core.List.{List}
use Prim.Native.Nat.{ℕ, zero, suc, ◌+◌, ◌*◌, ◌/◌, ◌%◌, ◌^◌, ◌≤◌, ◌<◌}
use native.Mathlib.Nat.{mul-one, mul-zero, mul-suc, mul_comm, mul_assoc, div-one, mod-one, pow-zero, pow-suc, pow-le-pow_right, mul-le-mul_left, mul-le-mul_right, lt_of_le_of_lt, div-add-mod, div-div-eq-div-mul}
use native.Mathlib.Numerals.{add-one}
use native.Mathlib.Omega.{arith}
use borrow.Author.Tests.{ne_eqb}
use lib.Dec.{eqb}
use lib.Arith.{digits_div, digits_mod, mod-mul}
use lib.Pow.{pow-add}
use lib.ListN.{length, get_or, set, drop, length-set}
use lib.Seq.{get_or-set_other}
use Rattle.decimal.specs.Limbs.{value, Few, Holds, Divided}
use Rattle.decimal.specs.Laws.Units.{power_pos}
use Rattle.decimal.proofs.Value.{value_set, value-drop, few_set}

-- ---- times a power

pub times_none : (l : List ℕ) (k : ℕ) → Few l → Holds (length l) l (value l * k ^ 0)
times_none l k f = record { few = f; limbs = refl; is = sym (ap (λ (n : ℕ). value l * n) (pow-zero k) ∙ mul-one (value l)) }

next : (v k i : ℕ) → v * k ^ i * k ≡ v * k ^ (i + 1)
next v k i = mul_assoc v (k ^ i) k ∙ ap (λ (n : ℕ). v * n) (sym (pow-suc k i) ∙ ap (λ (n : ℕ). k ^ n) (sym (add-one i)))

-- the product so far has room for one factor more, where the whole product has room
pub times_room : (j v k i n : ℕ) (l : List ℕ) → 0 < k → i < n → v * k ^ n < 2 ^ (32 * j) → Holds j l (v * k ^ i) → value l * k < 2 ^ (32 * length l)
times_room j v k i n l K h room s =
    subst (λ (m : ℕ). value l * k < 2 ^ (32 * m)) (sym s.limbs)
    (subst (λ (m : ℕ). m < 2 ^ (32 * j)) (sym (ap (λ (m : ℕ). m * k) s.is ∙ next v k i)) (lt_of_le_of_lt (mul-le-mul_left v (pow-le-pow_right K (up i n h))) room))
  where
    up : (b d : ℕ) → b < d → b + 1 ≤ d
    up b d p = omega arith

pub times_more : (j v k i : ℕ) (l m : List ℕ) → Holds j l (v * k ^ i) → Holds (length l) m (value l * k) → Holds j m (v * k ^ (i + 1))
times_more j v k i l m s t = record { few = t.few; limbs = t.limbs ∙ s.limbs; is = t.is ∙ ap (λ (n : ℕ). n * k) s.is ∙ next v k i }

-- ---- over a power

pub over_none : (l : List ℕ) (d : ℕ) → Few l → Holds (length l) l (value l / d ^ 0)
over_none l d f = record { few = f; limbs = refl; is = sym (ap (λ (n : ℕ). value l / n) (pow-zero d) ∙ div-one (value l)) }

pub even_none : (v d : ℕ) → true ≡ eqb (v % d ^ 0) 0
even_none v d = sym (ap (λ (n : ℕ). eqb n 0) (ap (λ (n : ℕ). v % n) (pow-zero d) ∙ mod-one v))

pub no_part : (r P s : ℕ) → 0 < P → eqb (r * P + s) 0 ≡ (eqb r 0 && eqb s 0)
no_part zero P s p = ap (λ (n : ℕ). eqb n 0) (none P s)
  where
    none : (a b : ℕ) → 0 * a + b ≡ b
    none a b = omega arith
no_part (suc r) P s p = rw (ne_eqb (suc r * P + s) 0 (λ e. some (mul-le-mul_right P (one r)) e), ne_eqb (suc r) 0 (λ e. not r e)) refl
  where
    one : (n : ℕ) → 1 ≤ suc n
    one n = omega arith

    some : 1 * P ≤ suc r * P → suc r * P + s ≡ 0 → ⊥
    some h e = omega arith

    not : (n : ℕ) → suc n ≡ 0 → ⊥
    not n e = omega arith

power : (d i : ℕ) → d ^ (i + 1) ≡ d ^ i * d
power d i = ap (λ (n : ℕ). d ^ n) (add-one i) ∙ pow-suc d i

-- n is q times d, and r: so n over d is q, and r is left
module _ (n d q r : ℕ) (e : q * d + r ≡ n) (h : r < d) where
  quotient : n / d ≡ q
  quotient = ap (λ (x : ℕ). x / d) (sym e) ∙ digits_div q h

  rest : n % d ≡ r
  rest = ap (λ (x : ℕ). x % d) (sym e) ∙ digits_mod q h

-- a division by P d comes out even where that by P does, and that of what comes out by d
pub even_twice : (v P d : ℕ) → 0 < P → 0 < d → (eqb (v / P % d) 0 && eqb (v % P) 0) ≡ eqb (v % (P * d)) 0
even_twice v P d p q = sym (ap (λ (n : ℕ). eqb (v % n) 0) (mul_comm P d) ∙ ap (λ (n : ℕ). eqb n 0) (mod-mul v q p) ∙ no_part (v / P % d) P (v % P) p)

pub over_more : (j v d i r : ℕ) (l m : List ℕ) → 0 < d → Holds j l (v / d ^ i) → Divided l d r m → Holds j m (v / d ^ (i + 1))
over_more j v d i r l m D s t = record { few = t.few; limbs = t.limbs ∙ s.limbs; is = sym (ap (λ (n : ℕ). v / n) (power d i) ∙ sym (div-div-eq-div-mul v (d ^ i) d) ∙ quotient (v / d ^ i) d (value m) r (t.is ∙ s.is) t.left) }

pub even_more : (j v d i r : ℕ) (l m : List ℕ) (even even' : Bool) → 0 < d → Holds j l (v / d ^ i) → Divided l d r m → even ≡ eqb (v % d ^ i) 0 → even' ≡ (eqb r 0 && even) → even' ≡ eqb (v % d ^ (i + 1)) 0
even_more j v d i r l m even even' D s t e f =
    f
    ∙ (λ k. eqb (sym (rest (v / d ^ i) d (value m) r (t.is ∙ s.is) t.left) k) 0 && e k)
    ∙ even_twice v (d ^ i) d (power_pos d i D) D
    ∙ ap (λ (n : ℕ). eqb (v % n) 0) (sym (power d i))

-- ---- a power in two parts: big is k ^ size

power_mul : (k a b : ℕ) → (k ^ a) ^ b ≡ k ^ (a * b)
power_mul k a zero = pow-zero (k ^ a) ∙ sym (ap (λ (n : ℕ). k ^ n) (mul-zero a) ∙ pow-zero k)
power_mul k a (suc b) = pow-suc (k ^ a) b ∙ ap (λ (n : ℕ). n * k ^ a) (power_mul k a b) ∙ sym (pow-add k (a * b) a) ∙ ap (λ (n : ℕ). k ^ n) (sym (mul-suc a b))

module _ (k big size n : ℕ) (B : big ≡ k ^ size) (K : 0 < k) where
  pub long : big ^ (n / size) * k ^ (n % size) ≡ k ^ n
  long =
      ap (λ (z : ℕ). z ^ (n / size) * k ^ (n % size)) B
      ∙ ap (λ (z : ℕ). z * k ^ (n % size)) (power_mul k size (n / size))
      ∙ sym (pow-add k (size * (n / size)) (n % size))
      ∙ ap (λ (z : ℕ). k ^ z) (div-add-mod n size)

  pub big_pos : 0 < big
  big_pos = subst (λ (z : ℕ). 0 < z) (sym B) (power_pos k size K)

  pub long_room : (v R : ℕ) → v * k ^ n < R → v * big ^ (n / size) < R
  long_room v R h = lt_of_le_of_lt (subst (λ (z : ℕ). v * big ^ (n / size) ≤ v * z) long (mul-le-mul_left v (le_times (big ^ (n / size)) (power_pos k (n % size) K)))) h
    where
      le_times : (a : ℕ) → 0 < k ^ (n % size) → a ≤ a * k ^ (n % size)
      le_times a p = subst (λ (z : ℕ). z ≤ a * k ^ (n % size)) (mul-one a) (mul-le-mul_left a p)

  pub long_rest : (j v : ℕ) (l : List ℕ) → Holds j l (v * big ^ (n / size)) → v * k ^ n < 2 ^ (32 * j) → value l * k ^ (n % size) < 2 ^ (32 * length l)
  long_rest j v l s h = subst (λ (z : ℕ). value l * k ^ (n % size) < 2 ^ (32 * z)) (sym s.limbs) (subst (λ (z : ℕ). z < 2 ^ (32 * j)) (sym (together v (value l) s.is)) h)
    where
      together : (a b : ℕ) → b ≡ a * big ^ (n / size) → b * k ^ (n % size) ≡ a * k ^ n
      together a b e = ap (λ (z : ℕ). z * k ^ (n % size)) e ∙ mul_assoc a (big ^ (n / size)) (k ^ (n % size)) ∙ ap (λ (z : ℕ). a * z) long

  pub times_both : (j v : ℕ) (l m : List ℕ) → Holds j l (v * big ^ (n / size)) → Holds (length l) m (value l * k ^ (n % size)) → Holds j m (v * k ^ n)
  times_both j v l m s t = record { few = t.few; limbs = t.limbs ∙ s.limbs; is = t.is ∙ ap (λ (z : ℕ). z * k ^ (n % size)) s.is ∙ mul_assoc v (big ^ (n / size)) (k ^ (n % size)) ∙ ap (λ (z : ℕ). v * z) long }

  pub over_both : (j v : ℕ) (l m : List ℕ) → Holds j l (v / big ^ (n / size)) → Holds (length l) m (value l / k ^ (n % size)) → Holds j m (v / k ^ n)
  over_both j v l m s t = record { few = t.few; limbs = t.limbs ∙ s.limbs; is = t.is ∙ ap (λ (z : ℕ). z / k ^ (n % size)) s.is ∙ div-div-eq-div-mul v (big ^ (n / size)) (k ^ (n % size)) ∙ ap (λ (z : ℕ). v / z) long }

  pub even_both : (j v : ℕ) (l : List ℕ) (a b r : Bool) → Holds j l (v / big ^ (n / size)) → a ≡ eqb (v % big ^ (n / size)) 0 → b ≡ eqb (value l % k ^ (n % size)) 0 → r ≡ (b && a) → r ≡ eqb (v % k ^ n) 0
  even_both j v l a b r s e f g =
      g
      ∙ (λ i. (f ∙ ap (λ (z : ℕ). eqb (z % k ^ (n % size)) 0) s.is) i && e i)
      ∙ even_twice v (big ^ (n / size)) (k ^ (n % size)) (power_pos big (n / size) big_pos) (power_pos k (n % size) K)
      ∙ ap (λ (z : ℕ). eqb (v % z) 0) long

-- ---- the limbs of a number below 2 ^ 64

pub first_two : (k a : ℕ) (l : List ℕ) → 1 < k → a < 2 ^ 64 → Holds k l 0 → Holds k (set (set l 0 (a % 4294967296)) 1 (a / 4294967296)) a
first_two k a l h b s =
    let p = a % 4294967296 in
    let q = a / 4294967296 in
    let m = set l 0 p in
    let one : 0 < length l = subst (λ (n : ℕ). 0 < n) (sym s.limbs) (less k h) in
    let two : 1 < length l = subst (λ (n : ℕ). 1 < n) (sym s.limbs) h in
    let same : length m ≡ length l = length-set l 0 p in
    record {
      few = few_set m 1 q (few_set l 0 p s.few (low a)) (high a b);
      limbs = length-set m 1 q ∙ same ∙ s.limbs;
      is = go (value l) (value m) (value (set m 1 q)) (get_or l 0 0) (get_or m 1 0) (get_or l 1 0) (value (drop 1 l)) (value (drop 2 l)) s.is
          (value-drop l 0 one) (value-drop l 1 two) (get_or-set_other l 0 1 p 0 (λ e. differ e)) (value_set l 0 p one) (value_set m 1 q (subst (λ (n : ℕ). 1 < n) (sym same) two));
    }
  where
    low : (n : ℕ) → n % 4294967296 < 2 ^ 32
    low n = omega arith

    high : (n : ℕ) → n < 2 ^ 64 → n / 4294967296 < 2 ^ 32
    high n p = omega arith

    less : (n : ℕ) → 1 < n → 0 < n
    less n p = omega arith

    differ : ◌≡◌ {A = ℕ} 1 0 → ⊥
    differ e = omega arith

    go : (v w u x y z p q : ℕ) → v ≡ 0 → v ≡ x + 2 ^ 32 * p → p ≡ z + 2 ^ 32 * q → y ≡ z → w + x * 1 ≡ v + a % 4294967296 * 1 → u + y * 4294967296 ≡ w + a / 4294967296 * 4294967296 → u ≡ a
    go v w u x y z p q e f g m n o = omega arith
