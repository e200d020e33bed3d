-- `num::u64_at` meets its contract: its eight bytes are worth what the two halves of `le64` are.
use Rattle.std.proofs.Common.{arith, add-zero, add_assoc}
use Rattle.num.specs.Le.{le32, le64}
use Rattle.num.proofs.u64_at.Goals as goal

pub returns : goal.returns
unfolding le64 le32
returns c =
    let b = c.bytes_at.ensures in
    simp add_assoc (omega (arith, rw add-zero at (b 0 (omega arith)), b 1 (omega arith), b 2 (omega arith), b 3 (omega arith), b 4 (omega arith), b 5 (omega arith), b 6 (omega arith), b 7 (omega arith)))
