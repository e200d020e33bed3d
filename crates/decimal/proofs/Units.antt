-- A number of quarter steps in decimal units, as the code works it out: by powers of 2 and of 10 that are left when what the two sides share is cut out. Assumes nothing.
use mathlib.Core.Path.{◌≡◌, refl, sym, ap, ◌∙◌, subst}
use mathlib.Core.Bool.{Bool, true, false, ◌&&◌}
use mathlib.Core.List.{List}
use Prim.Native.Nat.{ℕ, ◌+◌, ◌-◌, ◌*◌, ◌/◌, ◌%◌, ◌^◌, ◌≤◌, ◌<◌, min}
use native.Mathlib.Nat.{mul-one, mul_comm, mul_assoc, mul-le-mul, mul-le-mul_left, mul-lt-mul_of_pos_right, le_of_lt, lt_of_le_of_lt, mul-div-mul_right, mul-div_cancel, mul-mod_left, div-div-eq-div-mul, div-lt_iff_lt-mul, le-div_iff_mul-le, mul-pos}
use native.Mathlib.Omega.{arith}
use lib.Dec.{eqb, lit<}
use lib.Pow.{pow-add, pow_pos}
use lib.ListN.{length}
use Rattle.decimal.specs.Limbs.{value, Holds}
use Rattle.decimal.specs.Scale.{place_of, top, bottom}
use Rattle.decimal.specs.Laws.Units.{bottom_pos, power_pos}
use Rattle.decimal.proofs.Laws.Units.{quarter_facts}
use Rattle.decimal.proofs.Powers.{even_twice}

-- ---- two steps on limbs are one

pub join_times : (k n p : ℕ) (l m : List ℕ) → Holds k l n → Holds (length l) m (value l * p) → Holds k m (n * p)
join_times k n p l m s t = record { few = t.few; limbs = t.limbs ∙ s.limbs; is = t.is ∙ ap (λ (z : ℕ). z * p) s.is }

pub join_over : (k n p : ℕ) (l m : List ℕ) → Holds k l n → Holds (length l) m (value l / p) → Holds k m (n / p)
join_over k n p l m s t = record { few = t.few; limbs = t.limbs ∙ s.limbs; is = t.is ∙ ap (λ (z : ℕ). z / p) s.is }

-- ---- room

pub room : (n p : ℕ) (l : List ℕ) → Holds 36 l n → n * p < 2 ^ 1152 → value l * p < 2 ^ (32 * length l)
room n p l s h = subst (λ (z : ℕ). value l * p < 2 ^ (32 * z)) (sym s.limbs) (subst (λ (z : ℕ). z * p < 2 ^ 1152) (sym s.is) h)

pub room_tens : (a X Y : ℕ) → a < 2 ^ 56 → X * Y ≤ 2 ^ 1090 → a * X * Y < 2 ^ 1152
room_tens a X Y h k = lt_of_le_of_lt (subst (λ (z : ℕ). z ≤ 2 ^ 1146) (sym (mul_assoc a X Y)) (mul-le-mul {n₂ = 2 ^ 56} {m₂ = 2 ^ 1090} (le_of_lt h) k)) (lit< {m = 2 ^ 1146} tt)

pub room_twos : (a X Y : ℕ) → a < 2 ^ 56 → 0 < Y → X * Y ≤ 2 ^ 1090 → a * X < 2 ^ 1152
room_twos a X Y h p k = lt_of_le_of_lt (subst (λ (z : ℕ). z ≤ a * X * Y) (mul-one (a * X)) (mul-le-mul_left (a * X) p)) (room_tens a X Y h k)

pub room_first : (b a x : ℕ) (l : List ℕ) → 0 < b → b < 2047 → a < 2 ^ 56 → x ≡ b - 1077 → Holds 36 l a → value l * 2 ^ x < 2 ^ (32 * length l)
room_first b a x l h k few e s = room a (2 ^ x) l s (subst (λ (z : ℕ). a * 2 ^ z < 2 ^ 1152) (sym e) (room_twos a (2 ^ (b - 1077)) (10 ^ (326 - place_of b)) few (power_pos 10 (326 - place_of b) (lit< tt)) (quarter_facts b h k).short))

pub room_second : (b a w x y : ℕ) (l : List ℕ) → 0 < b → b < 2047 → a < 2 ^ 56 → w ≡ place_of b → x ≡ b - 1077 → y ≡ 326 - w → Holds 36 l (a * 2 ^ x) → value l * 10 ^ y < 2 ^ (32 * length l)
room_second b a w x y l h k few W X Y s = room (a * 2 ^ x) (10 ^ y) l s (subst (λ (z : ℕ). a * 2 ^ x * 10 ^ z < 2 ^ 1152) (sym (Y ∙ ap (λ (z : ℕ). 326 - z) W)) (subst (λ (z : ℕ). a * 2 ^ z * 10 ^ (326 - place_of b) < 2 ^ 1152) (sym X) (room_tens a (2 ^ (b - 1077)) (10 ^ (326 - place_of b)) few (quarter_facts b h k).short)))

-- ---- how many units there are

module _ (b a : ℕ) (h : 0 < b) (k : b < 2047) (few : a < 2 ^ 56) where
  pub whole_few : a * top b / bottom b < 2 ^ 63
  whole_few = (div-lt_iff_lt-mul (bottom_pos b)).1 (lt_of_le_of_lt (mul-le-mul_left a (le_of_lt (quarter_facts b h k).most)) (subst (λ (z : ℕ). z < 2 ^ 63 * bottom b) (mul_assoc a 101 (bottom b)) (mul-lt-mul_of_pos_right (small a few) (bottom_pos b))))
    where
      small : (n : ℕ) → n < 2 ^ 56 → n * 101 < 2 ^ 63
      small n p = omega arith

  pub whole_many : a * 10 ≤ a * top b / bottom b
  whole_many = (le-div_iff_mul-le (bottom_pos b)).1 (subst (λ (z : ℕ). z ≤ a * top b) (sym (mul_assoc a 10 (bottom b))) (mul-le-mul_left a (quarter_facts b h k).least))

-- ---- what the two sides share

left_part : (k x y : ℕ) → k ^ (x - y) * k ^ min x y ≡ k ^ x
left_part k x y = sym (pow-add k (x - y) (min x y)) ∙ ap (λ (z : ℕ). k ^ z) (whole x y)
  where
    whole : (m n : ℕ) → m - n + min m n ≡ m
    whole m n = omega arith

right_part : (k x y : ℕ) → k ^ (y - x) * k ^ min x y ≡ k ^ y
right_part k x y = sym (pow-add k (y - x) (min x y)) ∙ ap (λ (z : ℕ). k ^ z) (whole x y)
  where
    whole : (m n : ℕ) → n - m + min m n ≡ n
    whole m n = omega arith

and_true : (c : Bool) → (c && true) ≡ c
and_true true = refl
and_true false = refl

even_scaled : (n m s : ℕ) → 0 < m → 0 < s → eqb (n * s % (m * s)) 0 ≡ eqb (n % m) 0
even_scaled n m s M S =
    ap (λ (z : ℕ). eqb (n * s % z) 0) (mul_comm m s)
    ∙ sym (even_twice (n * s) s m S M)
    ∙ (λ i. eqb (mul-div_cancel n S i % m) 0 && eqb (mul-mod_left n s i) 0)
    ∙ and_true (eqb (n % m) 0)

module _ (b a : ℕ) where
  -- the two sides' common part
  shared : ℕ
  shared = 2 ^ min b 1077 * 10 ^ min 326 (place_of b)

  shared_pos : 0 < shared
  unfolding shared
  shared_pos = mul-pos (pow_pos (min b 1077)) (power_pos 10 (min 326 (place_of b)) (lit< tt))

  upper : a * 2 ^ (b - 1077) * 10 ^ (326 - place_of b) * shared ≡ a * top b
  unfolding shared top
  upper = go (2 ^ (b - 1077)) (10 ^ (326 - place_of b)) (2 ^ min b 1077) (10 ^ min 326 (place_of b)) ∙ (λ i. a * (left_part 2 b 1077 i * left_part 10 326 (place_of b) i))
    where
      go : (X Y P Q : ℕ) → a * X * Y * (P * Q) ≡ a * (X * P * (Y * Q))
      go X Y P Q = omega arith

  lower : 2 ^ (1077 - b) * 10 ^ (place_of b - 326) * shared ≡ bottom b
  unfolding shared bottom
  lower = go (2 ^ (1077 - b)) (10 ^ (place_of b - 326)) (2 ^ min b 1077) (10 ^ min 326 (place_of b)) ∙ (λ i. right_part 2 b 1077 i * right_part 10 326 (place_of b) i)
    where
      go : (X Y P Q : ℕ) → X * Y * (P * Q) ≡ X * P * (Y * Q)
      go X Y P Q = omega arith

  -- the number that the code divides, and what it divides by
  abbrev dividend : ℕ
  dividend = a * 2 ^ (b - 1077) * 10 ^ (326 - place_of b)

  whole_is : dividend / 2 ^ (1077 - b) / 10 ^ (place_of b - 326) ≡ a * top b / bottom b
  whole_is =
      div-div-eq-div-mul dividend (2 ^ (1077 - b)) (10 ^ (place_of b - 326))
      ∙ sym (mul-div-mul_right dividend (2 ^ (1077 - b) * 10 ^ (place_of b - 326)) shared_pos)
      ∙ (λ i. upper i / lower i)

  even_is : (eqb (dividend / 2 ^ (1077 - b) % 10 ^ (place_of b - 326)) 0 && eqb (dividend % 2 ^ (1077 - b)) 0) ≡ eqb (a * top b % bottom b) 0
  even_is =
      even_twice dividend (2 ^ (1077 - b)) (10 ^ (place_of b - 326)) (pow_pos (1077 - b)) (power_pos 10 (place_of b - 326) (lit< tt))
      ∙ sym (even_scaled dividend (2 ^ (1077 - b) * 10 ^ (place_of b - 326)) shared (mul-pos (pow_pos (1077 - b)) (power_pos 10 (place_of b - 326) (lit< tt))) shared_pos)
      ∙ (λ i. eqb (upper i % lower i) 0)

  -- the limbs' number and the two tests, put together
  pub whole_at : (w x y u v : ℕ) (l : List ℕ) → w ≡ place_of b → x ≡ b - 1077 → y ≡ 326 - w → u ≡ 1077 - b → v ≡ w - 326 → Holds 36 l (a * 2 ^ x * 10 ^ y / 2 ^ u / 10 ^ v) → value l ≡ a * top b / bottom b
  whole_at w x y u v l W X Y U Z s = s.is ∙ (λ i. a * 2 ^ X i * 10 ^ (Y ∙ ap (λ (z : ℕ). 326 - z) W) i / 2 ^ U i / 10 ^ (Z ∙ ap (λ (z : ℕ). z - 326) W) i) ∙ whole_is

  pub even_at : (w x y u v : ℕ) (l m : List ℕ) (twos tens r : Bool) → w ≡ place_of b → x ≡ b - 1077 → y ≡ 326 - w → u ≡ 1077 - b → v ≡ w - 326
      → Holds 36 l (a * 2 ^ x * 10 ^ y) → Holds 36 m (a * 2 ^ x * 10 ^ y / 2 ^ u) → twos ≡ eqb (value l % 2 ^ u) 0 → tens ≡ eqb (value m % 10 ^ v) 0 → r ≡ (tens && twos) → r ≡ eqb (a * top b % bottom b) 0
  even_at w x y u v l m twos tens r W X Y U Z s t e f g =
      g
      ∙ (λ i. (f ∙ ap (λ (z : ℕ). eqb (z % 10 ^ v) 0) t.is) i && (e ∙ ap (λ (z : ℕ). eqb (z % 2 ^ u) 0) s.is) i)
      ∙ (λ i. eqb (a * 2 ^ X i * 10 ^ (Y ∙ ap (λ (z : ℕ). 326 - z) W) i / 2 ^ U i % 10 ^ (Z ∙ ap (λ (z : ℕ). z - 326) W) i) 0 && eqb (a * 2 ^ X i * 10 ^ (Y ∙ ap (λ (z : ℕ). 326 - z) W) i % 2 ^ U i) 0)
      ∙ even_is
