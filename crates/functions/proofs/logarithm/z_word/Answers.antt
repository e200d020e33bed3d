-- `functions::logarithm::z_word` meets its contract. Assumes nothing.
use Rattle.std.proofs.Common.{◌≡◌, ℕ, ◌+◌, ◌*◌, ◌^◌, arith}
use Rattle.functions.proofs.Thrice.{joined, z_is}
use Rattle.functions.proofs.logarithm.z_word.Goals as goal

twice : (a b c : ℕ) → 2 * ((a * 2097152 + b) * 2097152 + c) ≡ 2 * (a * 2 ^ 42 + b * 2 ^ 21 + c)
twice a b c = omega arith

pub returns : goal.returns
returns c =
    let third = c.divided-third in
    let second = c.divided-second in
    let first = c.divided-first in
    let apart = c.abs_diff in
    z_is c.args.q c.args.o apart.result (first.result.k * 2 ^ 42 + second.result.k * 2 ^ 21 + third.result.k) third.result.left _ apart.ensures
    (joined (apart.result * 512) ((c.args.q + c.args.o) * 512) first.result.k first.result.left second.result.k second.result.left third.result.k third.result.left first.ensures.0 second.ensures.0 third.ensures.0)
    third.ensures.1 (twice first.result.k second.result.k third.result.k)
