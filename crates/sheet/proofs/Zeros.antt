-- A little-endian number is zero exactly when each of its bytes is.
use Prim.Native.Nat.{ℕ, zero, suc, ◌+◌, ◌*◌, ◌<◌}
use mathlib.Core.Path.{◌≡◌, refl}
use mathlib.Core.Bool.{Bool, true, false, ◌&&◌, and-true, and_assoc}
use mathlib.Core.List.{List}
use native.Mathlib.Omega.{arith}
use native.Mathlib.Nat.{zero-add, add-zero, suc-add, mul-zero, mul-le-mul_right}
use borrow.Author.Tests.{eq-eqb, ne_eqb, eqb-true, eqb-false}
use lib.ListN.{get_or}
use lib.Dec.{eqb}
use Rattle.num.specs.Le.{le16, le32, le64}
use Rattle.sheet.specs.Record.{zeros}

-- a sum of a and k times b, for a k above 0, is zero exactly when both are
module _ (k a b : ℕ) (h : 0 < k) where
  parts : (s t : Bool) → eqb a 0 ≡ s → eqb b 0 ≡ t → eqb (a + k * b) 0 ≡ (s && t)
  parts false t p q = ne_eqb _ _ (λ (e : a + k * b ≡ 0). eqb-false a 0 p (omega arith))
  parts true false p q = ne_eqb _ _ (λ (e : a + k * b ≡ 0). eqb-false b 0 q (omega (arith, mul-le-mul_right b h)))
  parts true true p q = let u = eqb-true a 0 p in let v = eqb-true b 0 q in let z : k * b ≡ 0 = rw (v, mul-zero) in eq-eqb (a + k * b) 0 (omega arith)

  both : eqb (a + k * b) 0 ≡ (eqb a 0 && eqb b 0)
  both = parts (eqb a 0) (eqb b 0) refl refl

split : (r : List ℕ) (at n m : ℕ) → zeros r at (n + m) ≡ (zeros r at n && zeros r (at + n) m)
unfolding zeros
split r at zero m = rw (zero-add, add-zero)
split r at (suc n) m =
    let p : at + suc n ≡ at + 1 + n = omega arith in
    rw (suc-add, p, split r (at + 1) n m, and_assoc)

module _ (r : List ℕ) (at : ℕ) where
  pub zero16 : eqb (le16 r at) 0 ≡ zeros r at 2
  unfolding zeros
  zero16 = rw (and-true) (both 256 (get_or r at 0) (get_or r (at + 1) 0) (omega arith))

pub zero32 : (r : List ℕ) (at : ℕ) → eqb (le32 r at) 0 ≡ zeros r at 4
unfolding le32
zero32 r at = rw (split r at 2 2, ← zero16 r at, ← zero16 r (at + 2)) (both 65536 (le16 r at) (le16 r (at + 2)) (omega arith))

pub zero64 : (r : List ℕ) (at : ℕ) → eqb (le64 r at) 0 ≡ zeros r at 8
unfolding le64
zero64 r at = rw (split r at 4 4, ← zero32 r at, ← zero32 r (at + 4)) (both 4294967296 (le32 r at) (le32 r (at + 4)) (omega arith))
