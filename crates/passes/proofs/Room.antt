-- A matrix as long as the base holds what is stamped before the diodes. Assumes nothing.
use Prim.Native.Nat.{ℕ, ◌+◌, ◌<◌}
use mathlib.Core.Path.{◌≡◌}
use mathlib.Core.List.{List}
use lib.ListN.{length}
use borrow.Author.Tests.{eqb-true}
use native.Mathlib.Omega.{arith}
use native.Mathlib.Nat.{mul-pos}
use Rattle.groups.specs.Listed.{Listed}
use Rattle.passes.specs.Sized.{Sized}
use Rattle.passes.specs.Again.{Holder}

pub holding : (sheet places : List ℕ) (n b h : ℕ) {a e s : ℕ} → Sized n a b e s → Listed sheet (length places) places → h ≡ b → Holder sheet places b h
holding sheet places n b h z l e =
    let p = mul-pos z.some (some n) in
    record {
      listed = l;
      none = λ t. absurd (omega (arith, eqb-true h 0 t, e, z.bases, p));
      long = λ _. e;
    }
  where
    some : (n : ℕ) → 0 < n + 1
    some n = omega arith
