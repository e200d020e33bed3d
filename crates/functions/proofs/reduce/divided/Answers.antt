-- `functions::reduce::divided` meets its contract. Assumes nothing.
use Rattle.std.proofs.Common.{◌≡◌, ℕ, ◌+◌, ◌-◌, ◌*◌, ◌/◌, ◌%◌, ◌^◌, ◌<◌, ◌≤◌, sym, ap, ◌∙◌, subst, lt_of_lt_of_le, mod-eq_of_lt, arith, pow_pos, pow_mono, w64, Fits}
use Rattle.functions.proofs.Divide as divide
use Rattle.functions.proofs.reduce.divided.Goals as goal

-- the leading digits move up within the word
module _ (m start n : ℕ) (least : 2 ^ 61 ≤ m) (most : m < 2 ^ 63) (under : start < m) (short : n ≤ 22) where
  few : 2 ^ n ≤ 2 ^ 22
  few = pow_mono short

  quotient : start / 2 ^ 21 * 2 ^ n % 2 ^ 64 / (m / 2 ^ 21 + 1) ≡ start / 2 ^ 21 * 2 ^ n / (m / 2 ^ 21 + 1)
  quotient = ap (λ (a : ℕ). a / (m / 2 ^ 21 + 1)) (mod-eq_of_lt (divide.word start m (2 ^ n) least most under (pow_pos n) few))

  less : start / 2 ^ 21 * 2 ^ n / (m / 2 ^ 21 + 1) < 2 ^ n
  less = divide.fewer start m (2 ^ n) least most under (pow_pos n) few _ (divide.low start m (2 ^ n) least most under (pow_pos n) few)

  -- what is left, before the last comparison
  module _ (left : ℕ) (left_word : left < 2 ^ 64) (told : (left + start / 2 ^ 21 * 2 ^ n % 2 ^ 64 / (m / 2 ^ 21 + 1) * m) % 2 ^ 64 ≡ start * 2 ^ n % 2 ^ 64) where
    abbrev k : ℕ
    k = start / 2 ^ 21 * 2 ^ n / (m / 2 ^ 21 + 1)

    wrapped : (left + k * m) % 2 ^ 64 ≡ start * 2 ^ n % 2 ^ 64
    wrapped = ap (λ (a : ℕ). (left + a * m) % 2 ^ 64) (sym quotient) ∙ told

    exact : start * 2 ^ n ≡ k * m + left
    exact = divide.exact start m (2 ^ n) least most under (pow_pos n) few left left_word wrapped

    once_more : m ≤ left → (start * 2 ^ n ≡ (k + 1) * m + (left - m)) × (left - m < m) × (k + 1 < 2 ^ n)
    once_more h = divide.once_more start m (2 ^ n) least most under (pow_pos n) few left left_word wrapped h

pub overflow_add-result : goal.overflow_add-result
overflow_add-result c =
    let a = c.args in
    let r = c.requires in
    one _ (subst (λ (k : ℕ). k < 2 ^ 22) (sym (quotient a.m a.start a.n r.0 r.1 r.2 r.3)) (lt_of_lt_of_le (less a.m a.start a.n r.0 r.1 r.2 r.3) (few a.m a.start a.n r.0 r.1 r.2 r.3)))
  where
    one : (n : ℕ) → n < 2 ^ 22 → Fits w64 (n + 1)
    one n h = omega arith

pub returns-then-left-m : goal.returns-then-left-m
returns-then-left-m c =
    let a = c.args in
    let r = c.requires in
    let l = c.taken-left in
    rw (quotient a.m a.start a.n r.0 r.1 r.2 r.3) (exact a.m a.start a.n r.0 r.1 r.2 r.3 l.result l.type_inv l.ensures, c.if-left-m.true, less a.m a.start a.n r.0 r.1 r.2 r.3)

pub returns-else-left-m : goal.returns-else-left-m
returns-else-left-m c =
    let a = c.args in
    let r = c.requires in
    let l = c.taken-left in
    rw (quotient a.m a.start a.n r.0 r.1 r.2 r.3) (once_more a.m a.start a.n r.0 r.1 r.2 r.3 l.result l.type_inv l.ensures c.if-left-m.false)
