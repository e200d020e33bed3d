-- `functions::reduce::taken` meets its contract. Assumes nothing.
use Rattle.std.proofs.Common.{◌≡◌, ℕ, ◌+◌, ◌-◌, ◌*◌, ◌%◌, ◌^◌, ◌<◌, arith}
use Rattle.functions.proofs.reduce.taken.Goals as goal

back : (a p : ℕ) → a < 2 ^ 64 → ((a + (2 ^ 64 - p % 2 ^ 64)) % 2 ^ 64 + p) % 2 ^ 64 ≡ a
back a p h = omega arith

pub returns : goal.returns
returns c = back c.args.a (c.args.k * c.args.m) (omega arith)
