-- The reduction by a modulus m / 2 ^ 62, from the float's field and digits: what `reduced` works out is k, f and the side of `nearest_of`, `left_of` and `below_of`. Assumes nothing.
use Rattle.std.proofs.Common.{◌≡◌, ℕ, ◌+◌, ◌-◌, ◌*◌, ◌/◌, ◌^◌, ◌<◌, ◌≤◌, Bool, true, false, ltb, sym, ap, ◌∙◌, subst, lt_of_lt_of_le, le_of_lt, mul-le-mul_right, mul_assoc, mul_comm, lt_of_mul-lt-mul_right, mul-lt-mul_of_pos_right, mul-pos, sub-add_cancel, mul-div_cancel, arith, lit≤, pow_pos, pow_mono, pow-add, le-ltb, lt-ltb}
use native.Mathlib.Nat.{eq_of_mul-eq-mul_right, div-eq_of_lt-le, div-eq_of_lt}
use lib.Ieee.Nearest.{div_same}
use Rattle.functions.specs.Fraction.{apart}
use Rattle.functions.specs.Words.{size_of}
use Rattle.functions.specs.Reduction.{nearest_of, left_of, below_of}
use Rattle.functions.specs.Laws.Reduced.{no_turns, all_left, no_side}
use Rattle.functions.specs.Laws.Fields.{with_field, size_lt}

-- what is to be shown of an answer
abbrev pub Is : ℕ → ℕ → ℕ → Bool → ℕ → ℕ → Type 0
Is m k f u n d = (k ≡ nearest_of (4 * m) n d) × (f ≡ left_of (4 * m) n d / d) × (u ≡ below_of (4 * m) n d)

-- ---- a size (k m + l) / 2 ^ 62

-- the nearest, where l is below the middle, and where it is above
stay : (k l M D : ℕ) → 0 < D → 2 * l < M → (2 * ((k * M + l) * D) + M * D) / (2 * (M * D)) ≡ k
stay k l M D p h = div-eq_of_lt-le (2 * (M * D)) (omega arith) (go (mul-lt-mul_of_pos_right h p))
  where
    go : 2 * l * D < M * D → 2 * ((k * M + l) * D) + M * D < (k + 1) * (2 * (M * D))
    go q = omega arith

move : (k l M D : ℕ) → 0 < D → M ≤ 2 * l → l < M → (2 * ((k * M + l) * D) + M * D) / (2 * (M * D)) ≡ k + 1
move k l M D p h g = div-eq_of_lt-le (2 * (M * D)) (go (mul-le-mul_right D h)) (on (mul-lt-mul_of_pos_right g p) (mul-pos (omega arith) p))
  where
    go : M * D ≤ 2 * l * D → (k + 1) * (2 * (M * D)) ≤ 2 * ((k * M + l) * D) + M * D
    go q = omega arith

    on : l * D < M * D → 0 < M * D → 2 * ((k * M + l) * D) + M * D < (k + 1 + 1) * (2 * (M * D))
    on q r = omega arith

module _ (m k l n d : ℕ) (dp : 0 < d) (lt : l < m) (e : n * 2 ^ 62 ≡ (k * m + l) * d) where
  whole : n * 2 ^ 64 ≡ (k * m + l) * (4 * d)
  whole = go n ((k * m + l) * d) e ∙ back (k * m + l) d
    where
      go : (a b : ℕ) → a * 2 ^ 62 ≡ b → a * 2 ^ 64 ≡ 4 * b
      go a b q = omega arith

      back : (a c : ℕ) → 4 * (a * c) ≡ a * (4 * c)
      back a c = omega arith

  unit : 4 * m * d ≡ m * (4 * d)
  unit = omega arith

  four_pos : 0 < 4 * d
  four_pos = omega arith

  turns_is : nearest_of (4 * m) n d ≡ (2 * ((k * m + l) * (4 * d)) + m * (4 * d)) / (2 * (m * (4 * d)))
  unfolding nearest_of
  turns_is = ap (λ (a : ℕ). (2 * a + 4 * m * d) / (2 * (4 * m * d))) whole ∙ ap (λ (a : ℕ). (2 * ((k * m + l) * (4 * d)) + a) / (2 * a)) unit

  far : (j : ℕ) → nearest_of (4 * m) n d ≡ j → left_of (4 * m) n d ≡ apart ((k * m + l) * (4 * d)) (j * (m * (4 * d)))
  unfolding left_of
  far j t = ap (λ (a : ℕ). apart a (nearest_of (4 * m) n d * (4 * m * d))) whole ∙ ap (λ (a : ℕ). apart ((k * m + l) * (4 * d)) (a * (4 * m * d))) t ∙ ap (λ (a : ℕ). apart ((k * m + l) * (4 * d)) (j * a)) unit

  side : (j : ℕ) → nearest_of (4 * m) n d ≡ j → below_of (4 * m) n d ≡ ltb ((k * m + l) * (4 * d)) (j * (m * (4 * d)))
  unfolding below_of
  side j t = ap (λ (a : ℕ). ltb a (nearest_of (4 * m) n d * (4 * m * d))) whole ∙ ap (λ (a : ℕ). ltb ((k * m + l) * (4 * d)) (a * (4 * m * d))) t ∙ ap (λ (a : ℕ). ltb ((k * m + l) * (4 * d)) (j * a)) unit

  over : (a c : ℕ) → a ≡ 4 * c * d → a / d ≡ 4 * c
  over a c q = ap (λ (b : ℕ). b / d) q ∙ mul-div_cancel (4 * c) dp

  pub lower : 2 * l < m → Is m k (4 * l) false n d
  lower h =
      let t : nearest_of (4 * m) n d ≡ k = turns_is ∙ stay k l m (4 * d) four_pos h in (
        sym t,
        sym (over (left_of (4 * m) n d) l (far k t ∙ gap k l m d)),
        sym (side k t ∙ le-ltb ((k * m + l) * (4 * d)) (k * (m * (4 * d))) (reach k l m d)),
      )
    where
      gap : (a b M c : ℕ) → apart ((a * M + b) * (4 * c)) (a * (M * (4 * c))) ≡ 4 * b * c
      gap a b M c = omega arith

      reach : (a b M c : ℕ) → a * (M * (4 * c)) ≤ (a * M + b) * (4 * c)
      reach a b M c = omega arith

  pub higher : m ≤ 2 * l → Is m (k + 1) (4 * (m - l)) true n d
  higher h =
      let t : nearest_of (4 * m) n d ≡ k + 1 = turns_is ∙ move k l m (4 * d) four_pos h lt in
      let g : (m - l) + l ≡ m = sub-add_cancel (le_of_lt lt) in (
        sym t,
        sym (over (left_of (4 * m) n d) (m - l) (far (k + 1) t ∙ gap k l m (m - l) d (ap (λ (a : ℕ). a * d) g))),
        sym (side (k + 1) t ∙ lt-ltb ((k * m + l) * (4 * d)) ((k + 1) * (m * (4 * d))) (reach k l m d (mul-lt-mul_of_pos_right lt dp))),
      )
    where
      gap : (a b M u c : ℕ) → (u + b) * c ≡ M * c → apart ((a * M + b) * (4 * c)) ((a + 1) * (M * (4 * c))) ≡ 4 * u * c
      gap a b M u c q = omega arith

      reach : (a b M c : ℕ) → b * c < M * c → (a * M + b) * (4 * c) < (a + 1) * (M * (4 * c))
      reach a b M c q = omega arith

-- ---- from the field

-- from 1/4 up: the size is a whole multiple of 2 ^ -62
pub multiple : (n d q x : ℕ) → 1021 ≤ x → n * 2 ^ 1074 ≡ q * 2 ^ (x - 1) * d → n * 2 ^ 62 ≡ q * 2 ^ 8 * 2 ^ (x - 1021) * d
multiple n d q x h e =
    eq_of_mul-eq-mul_right (2 ^ 1012) (pow_pos 1012) (n * 2 ^ 62) (q * 2 ^ 8 * 2 ^ (x - 1021) * d)
    (mul_assoc n (2 ^ 62) (2 ^ 1012) ∙ e
    ∙ ap (λ (a : ℕ). q * a * d) (ap (λ (a : ℕ). 2 ^ a) (parts x h) ∙ pow-add 2 (x - 1021) 1020)
    ∙ swap q (2 ^ 8) (2 ^ (x - 1021)) (2 ^ 1012) d)
  where
    parts : (a : ℕ) → 1021 ≤ a → a - 1 ≡ (a - 1021) + 1020
    parts a p = omega arith

    swap : (a b c g f : ℕ) → a * (c * (b * g)) * f ≡ a * b * c * f * g
    swap a b c g f = omega arith

-- a size below 2 ^ j / 2 ^ (i + j), so that n 2 ^ i is below d
under_unit : (n d z i j : ℕ) → 0 < d → n * 2 ^ (i + j) ≡ z * d → z < 2 ^ j → n * 2 ^ i < d
under_unit n d z i j dp e h =
    lt_of_mul-lt-mul_right (2 ^ j)
    (subst (λ (a : ℕ). a < d * 2 ^ j) (sym (mul_assoc n (2 ^ i) (2 ^ j) ∙ ap (λ (a : ℕ). n * a) (sym (pow-add 2 i j)) ∙ e))
    (subst (λ (a : ℕ). z * d < a) (mul_comm (2 ^ j) d) (mul-lt-mul_of_pos_right h dp)))

-- below 1/4 the size is its own f
pub own : (m n d : ℕ) → 2 ^ 61 ≤ m → 4 * n < d → (k f : ℕ) (u : Bool) → k ≡ 0 → f ≡ n * 2 ^ 64 / d → u ≡ false → Is m k f u n d
own m n d lo small k f u e g h =
    let l : 2 ^ 63 ≤ 4 * m = omega arith in
    (e ∙ sym (no_turns (4 * m) n d l small), g ∙ sym (ap (λ (a : ℕ). a / d) (all_left (4 * m) n d l small)), h ∙ sym (no_side (4 * m) n d l small))

-- a field below 1021 is a size below 1/4
pub quarter : (n d x t : ℕ) → 0 < d → x < 1021 → t < 2 ^ 52 → n * 2 ^ 1074 ≡ size_of x t * d → 4 * n < d
quarter n d x t dp h tb e = subst (λ (a : ℕ). a < d) (mul_comm n 4) (under_unit n d (size_of x t) 2 1072 dp e (size_lt x t 1020 tb (omega arith) (lit≤ tt)))

-- below 2 ^ -65 in size: nothing of it is left
pub nothing : (n d x t : ℕ) → 0 < d → x < 957 → t < 2 ^ 52 → n * 2 ^ 1074 ≡ size_of x t * d → 0 ≡ n * 2 ^ 64 / d
nothing n d x t dp h tb e = sym (div-eq_of_lt (under_unit n d (size_of x t) 64 1010 dp e (lt_of_lt_of_le (size_lt x t 956 tb (omega arith) (lit≤ tt)) (pow_mono {i = 1008} {j = 1010} (lit≤ tt)))))

-- otherwise the size itself, cut
pub some : (n d x t : ℕ) → 0 < d → 957 ≤ x → x < 1021 → t < 2 ^ 52 → n * 2 ^ 1074 ≡ size_of x t * d → (t + 2 ^ 52) * 2 ^ 9 / 2 ^ (1020 - x) ≡ n * 2 ^ 64 / d
some n d x t dp g h tb e =
    sym
    (div_same (n * 2 ^ 64) d ((t + 2 ^ 52) * 2 ^ 9) (2 ^ (1020 - x)) dp (pow_pos (1020 - x))
    (eq_of_mul-eq-mul_right (2 ^ (x - 10)) (pow_pos (x - 10)) (n * 2 ^ 64 * 2 ^ (1020 - x)) ((t + 2 ^ 52) * 2 ^ 9 * d)
    (left (2 ^ (1020 - x)) (2 ^ (x - 10)) (sym (pow-add 2 (1020 - x) (x - 10)) ∙ ap (λ (a : ℕ). 2 ^ a) (ten x g h))
    ∙ e ∙ ap (λ (a : ℕ). a * d) (with_field x t (omega arith))
    ∙ ap (λ (a : ℕ). (2 ^ 52 + t) * a * d) (ap (λ (a : ℕ). 2 ^ a) (nine x g) ∙ pow-add 2 9 (x - 10))
    ∙ right t (2 ^ (x - 10)) d)))
  where
    ten : (a : ℕ) → 957 ≤ a → a < 1021 → (1020 - a) + (a - 10) ≡ 1010
    ten a p q = omega arith

    nine : (a : ℕ) → 957 ≤ a → a - 1 ≡ 9 + (a - 10)
    nine a p = omega arith

    left : (a b : ℕ) → a * b ≡ 2 ^ 1010 → n * 2 ^ 64 * a * b ≡ n * 2 ^ 1074
    left a b q = mul_assoc (n * 2 ^ 64) a b ∙ ap (λ (c : ℕ). n * 2 ^ 64 * c) q ∙ mul_assoc n (2 ^ 64) (2 ^ 1010)

    right : (a b c : ℕ) → (2 ^ 52 + a) * (2 ^ 9 * b) * c ≡ (a + 2 ^ 52) * 2 ^ 9 * c * b
    right a b c = omega arith

-- x's own 64 digits, below 1/4
pub own_digits : (n d x t : ℕ) → 0 < d → 12 ≤ x → x ≤ 1086 → n * 2 ^ 1074 ≡ size_of x t * d → (t + 2 ^ 52) * 2 ^ 11 ≡ n * 2 ^ (1086 - x) / d
own_digits n d x t dp g h e =
    sym
    (ap (λ (a : ℕ). a / d)
    (eq_of_mul-eq-mul_right (2 ^ (x - 12)) (pow_pos (x - 12)) (n * 2 ^ (1086 - x)) ((t + 2 ^ 52) * 2 ^ 11 * d)
    (mul_assoc n (2 ^ (1086 - x)) (2 ^ (x - 12)) ∙ ap (λ (a : ℕ). n * a) (sym (pow-add 2 (1086 - x) (x - 12)) ∙ ap (λ (a : ℕ). 2 ^ a) (sum x g h))
    ∙ e ∙ ap (λ (a : ℕ). a * d) (with_field x t (omega arith))
    ∙ ap (λ (a : ℕ). (2 ^ 52 + t) * a * d) (ap (λ (a : ℕ). 2 ^ a) (eleven x g) ∙ pow-add 2 11 (x - 12))
    ∙ right t (2 ^ (x - 12)) d))
    ∙ mul-div_cancel ((t + 2 ^ 52) * 2 ^ 11) dp)
  where
    sum : (a : ℕ) → 12 ≤ a → a ≤ 1086 → 1086 - a + (a - 12) ≡ 1074
    sum a p q = omega arith

    eleven : (a : ℕ) → 12 ≤ a → a - 1 ≡ 11 + (a - 12)
    eleven a p = omega arith

    right : (a b c : ℕ) → (2 ^ 52 + a) * (2 ^ 11 * b) * c ≡ (a + 2 ^ 52) * 2 ^ 11 * c * b
    right a b c = omega arith
