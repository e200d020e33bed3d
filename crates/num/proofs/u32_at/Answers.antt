-- `num::u32_at` meets its contract: its four bytes are worth what the two halves of `le32` are.
use Rattle.std.proofs.Common.{arith, add-zero, add_assoc}
use Rattle.num.specs.Le.{le32}
use Rattle.num.proofs.u32_at.Goals as goal

pub returns : goal.returns
unfolding le32
returns c =
    let b = c.bytes_at.ensures in
    simp add_assoc (omega (arith, rw add-zero at (b 0 (omega arith)), b 1 (omega arith), b 2 (omega arith), b 3 (omega arith)))
