-- The size of a system of at most 48 rows. Assumes nothing.
use Prim.Native.Nat.{ℕ, ◌+◌, ◌*◌, ◌≤◌}
use native.Mathlib.Nat.{mul-le-mul}
use native.Mathlib.Omega.{arith}

pub small : (n : ℕ) → n ≤ 48 → n * (n + 1) ≤ 2352
small n h =
    let p : n + 1 ≤ 49 = omega arith in
    mul-le-mul h p
