-- The value of limbs after one of them is set, and the carry that an add leaves. Assumes nothing.
use Rattle.std.proofs.Common.{◌≡◌, ℕ, zero, suc, ◌+◌, ◌*◌, ◌^◌, ◌<◌, ◌≤◌, List, [], ◌∷◌, length, get_or, set, ap, ◌∙◌, le_trans, mul-le-mul_right, mul-le-mul_left, lt_of_not-le, not-le_of_lt, add-one, add_assoc, arith, length-set, pow_mono}
use Rattle.exact.specs.Limbs.{value}
use Rattle.exact.specs.Laws.Limbs.{above}
use Rattle.exact.specs.Rows.{Carried}

-- the weight of the limb above
pub next_weight : (i : ℕ) → 2 ^ (64 * (i + 1)) ≡ 2 ^ 64 * 2 ^ (64 * i)
next_weight i = ap (λ (n : ℕ). 2 ^ (64 * n)) (add-one i) ∙ above i

-- setting the limb at i to v takes the old digit's part away and puts v's there
value_set : (xs : List ℕ) (i v : ℕ) → i < length xs → value (set xs i v) + get_or xs i 0 * 2 ^ (64 * i) ≡ value xs + v * 2 ^ (64 * i)
unfolding value
value_set [] i v h = absurd (not-le_of_lt h (omega arith))
value_set (x ∷ xs) zero v h = swap x v (value xs)
  where
    swap : (a b t : ℕ) → b + 2 ^ 64 * t + a * 1 ≡ a + 2 ^ 64 * t + b * 1
    swap a b t = omega arith
value_set (x ∷ xs) (suc i) v h = rw (above i) (shift (value xs) (value (set xs i v)) x (get_or xs i 0) (2 ^ (64 * i)) (value_set xs i v (omega arith)))
  where
    shift : (a b d w P : ℕ) → b + w * P ≡ a + v * P → d + 2 ^ 64 * b + w * (2 ^ 64 * P) ≡ d + 2 ^ 64 * a + v * (2 ^ 64 * P)
    shift a b d w P e = omega arith

-- a number that has room, with a part above 0 at i, has i within the limbs
pub inside : (a c i n : ℕ) → 0 < c → a + c * 2 ^ (64 * i) < 2 ^ (64 * n) → i < n
inside a c i n p h = lt_of_not-le (λ (g : n ≤ i). not-le_of_lt h (le_trans (pow_mono (mul-le-mul_left 64 g)) (at_least a c (2 ^ (64 * i)) p (mul-le-mul_right (2 ^ (64 * i)) p))))
  where
    at_least : (b d P : ℕ) → 0 < d → 1 * P ≤ d * P → P ≤ b + d * P
    at_least b d P q u = omega arith

-- the limbs before a limb is set are the limbs after, with what was added and the carry
moved : (v v' old n sum out P W : ℕ) → v' + old * P ≡ v + sum * P → sum + out * W ≡ old + n → v' + out * (W * P) ≡ v + n * P
moved v v' old n sum out P W e s = omega (arith, ap (λ (k : ℕ). k * P) s)

-- a limb that a carrying add made, and the carry that it left
pub stored : (l : List ℕ) (i word carry sum out : ℕ) → i < length l → sum + out * 2 ^ 64 ≡ get_or l i 0 + word + carry → Carried l i (word + carry) out (set l i sum)
stored l i word carry sum out h e = record {
  limbs = length-set l i sum;
  sum = ap (λ (n : ℕ). value (set l i sum) + out * n) (next_weight i) ∙ moved (value l) (value (set l i sum)) (get_or l i 0) (word + carry) sum out (2 ^ (64 * i)) (2 ^ 64) (value_set l i sum h) (e ∙ add_assoc _ word carry);
}
