use Rattle.std.proofs.Common.{ℕ, ◌^◌, ◌<◌, sym, subst, lt_of_le_of_lt, arith, lit<}
use Rattle.std.proofs.Math.Nat.{pow-le-pow_right, one-le-pow}
use Rattle.pen.proofs.number.ten_to.Goals as goal

-- 10^19 is the largest that a word holds
room : (k : ℕ) → k < 20 → 10 ^ k < 2 ^ 64
room k h = lt_of_le_of_lt (pow-le-pow_right {n = 10} (lit< {m = 0} {n = 10} tt) {i = k} {j = 19} (omega arith)) (lit< {m = 10 ^ 19} {n = 2 ^ 64} tt)

pub pow-requires : goal.pow-requires
pow-requires c = room c.args.k c.requires

pub returns : goal.returns
returns c = (c.pow.ensures, subst (λ (n : ℕ). 0 < n) (sym c.pow.ensures) (one-le-pow c.args.k 10 (lit< {m = 0} {n = 10} tt)))
