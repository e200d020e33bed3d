-- Below the other's place nothing is left out; else the digits above it are divided by themselves.
use Rattle.std.proofs.Common.{◌≡◌, ℕ, ◌*◌, ◌%◌, ◌^◌, ◌<◌, ◌≤◌, sym, arith, mod-eq_of_lt, one-mul, pow_pos, pow_mono, lt_of_lt_of_le, le_trans, mul-le-mul_right}
use lib.Arith.{mod-mul}
use Rattle.remainder.proofs.Value.{shifted}
use Rattle.remainder.proofs.short.Goals as goal

far : (m n d : ℕ) → 0 < n → m < 2 ^ 53 → 53 ≤ d → m ≡ m % (n * 2 ^ d)
far m n d p h g = sym (mod-eq_of_lt (lt_of_lt_of_le h (le_trans (pow_mono g) (at_least n (2 ^ d) p))))
  where
    at_least : (a b : ℕ) → 0 < a → b ≤ a * b
    at_least a b q = rw (one-mul b) at (mul-le-mul_right b q)

pub returns-then-d-ge53 : goal.returns-then-d-ge53
returns-then-d-ge53 c = far c.args.m c.args.n c.args.d c.requires.some c.requires.digits (omega arith)

pub returns : goal.returns
returns c =
    let e = shifted c.args.d (omega arith) in
    rw e (sym (mod-mul c.args.m c.requires.some (pow_pos c.args.d)))
