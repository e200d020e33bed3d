-- `passes::attempt::renew` meets its contract.
use Prim.Native.Nat.{ℕ, ◌≤◌}
use mathlib.Core.Path.{◌≡◌, sym}
use mathlib.Core.List.{List}
use lib.ListN.{length, take}
use lib.Seq.{length-take-le}
use lib.Ieee.{Float}
use native.Mathlib.Omega.{arith}
use Rattle.passes.proofs.attempt.renew.Goals as goal

-- a part of 48 numbers
part : (a : List Float) (n : ℕ) → n ≤ 48 → length a ≡ 48 → length (take n a) ≡ n
part a n h l = length-take-le n a (omega arith)

pub slice_bounds-renew_in-end : goal.slice_bounds-renew_in-end
slice_bounds-renew_in-end c = sym (part _ _ c.requires.small c.cells-x.ensures.0)

pub renew_in-requires : goal.renew_in-requires
renew_in-requires c = (c.requires, part _ _ c.requires.small c.cells-x.ensures.0)
