-- `functions::logarithm::leading` meets its contract. Assumes nothing.
use Rattle.std.proofs.Common.{◌≡◌, ℕ, ◌-◌, ◌*◌, ◌%◌, ◌^◌, ◌<◌, ◌≤◌, sym, subst, lt_of_lt_of_le, mod-eq_of_lt, arith, lit≤, w64, Fits}
use lib.Count.{count_leading_zeros, leading_le}
use Rattle.functions.specs.Words.{size_of}
use Rattle.functions.specs.Laws.Leading.{Leading, normal_leads, subnormal_leads, zeros_many}
use Rattle.functions.proofs.logarithm.leading.Goals as goal

module _ (c : goal.Else-field-gt0) where
  some : 0 < c.args.digits
  some = omega arith

  many : 12 ≤ count_leading_zeros 64 c.args.digits
  many = zeros_many c.args.digits some c.requires.1

  most : count_leading_zeros 64 c.args.digits ≤ 64
  most = leading_le 64 c.args.digits

  leads : Leading (size_of 0 c.args.digits) (c.args.digits * 2 ^ (count_leading_zeros 64 c.args.digits - 11) % 2 ^ 64) (64 - count_leading_zeros 64 c.args.digits)
  leads =
      let t = c.args.digits in
      let l = subnormal_leads t some c.requires.1 in
      subst (λ (n : ℕ). Leading (size_of 0 t) n (64 - count_leading_zeros 64 t)) (sym (mod-eq_of_lt (lt_of_lt_of_le l.most (lit≤ tt)))) l

less : (z : ℕ) → 12 ≤ z → 11 ≤ z
less z h = omega arith

short : (z : ℕ) → z ≤ 64 → z - 11 < 64
short z h = omega arith

pub returns-then-field-gt0 : goal.returns-then-field-gt0
returns-then-field-gt0 c = normal_leads c.args.field c.args.digits c.if-field-gt0.true c.requires.0 c.requires.1

pub overflow_cast-z : goal.overflow_cast-z
overflow_cast-z c = go (count_leading_zeros 64 c.args.digits) (most c)
  where
    go : (n : ℕ) → n ≤ 64 → Fits w64 n
    go n h = omega arith

pub overflow_sub-result : goal.overflow_sub-result
overflow_sub-result c = less _ (many c)

pub overflow_shl-result : goal.overflow_shl-result
overflow_shl-result c = short _ (most c)

pub overflow_sub-result-2 : goal.overflow_sub-result-2
overflow_sub-result-2 c = most c

pub returns : goal.returns
returns c = let e : 0 ≡ c.args.field = omega arith in subst (λ (n : ℕ). Leading (size_of n c.args.digits) (c.args.digits * 2 ^ (count_leading_zeros 64 c.args.digits - 11) % 2 ^ 64) (64 - count_leading_zeros 64 c.args.digits)) e (leads c)
