-- `decimal::decimal_of` meets its contract.
use mathlib.Core.Path.{◌≡◌, refl}
use mathlib.Core.Bool.{Bool, true, false, not, beq}
use Prim.Native.Nat.{ℕ, ◌*◌}
use native.Mathlib.Omega.{arith}
use borrow.Author.Tests.{eq-eqb}
use lib.Dec.{T, eqb}
use lib.Ieee.{Float, nan, inf, fin, is_nan, ne, eq, up, down, level}
use lib.Ieee.Bits.{is_false}
use Rattle.decimal.specs.Decimal.{decimal_of}
use Rattle.decimal.proofs.decimal_of.Goals as goal

-- a float that does not differ from itself is no NaN, and one that does is
number : (x : Float) → ne x x ≡ false → T (not (is_nan x))
unfolding ne eq is_nan
number nan e = let z : ◌≡◌ {A = Bool} true false = e in absurd (let w : ◌≡◌ {A = ℕ} 0 1 = cc in omega arith)
number (inf s) e = tt
number (fin s m k) e = tt

not-number : (x : Float) → ne x x ≡ true → is_nan x ≡ true
unfolding ne eq is_nan
not-number nan e = refl
not-number (inf s) e = absurd (same s e)
  where
    same : (t : Bool) → not (beq t t) ≡ true → ⊥
    same true f = let w : ◌≡◌ {A = ℕ} 0 1 = cc in omega arith
    same false f = let w : ◌≡◌ {A = ℕ} 0 1 = cc in omega arith
not-number (fin s m k) e = absurd (same s (m * up k * down k) e)
  where
    same : (t : Bool) (n : ℕ) → not (level t n t n) ≡ true → ⊥
    same true n f = let u : eqb n n ≡ true = eq-eqb n n refl in let g : ◌≡◌ {A = Bool} false true = rw u at f in (let w : ◌≡◌ {A = ℕ} 0 1 = cc in omega arith)
    same false n f = let u : eqb n n ≡ true = eq-eqb n n refl in let g : ◌≡◌ {A = Bool} false true = rw u at f in (let w : ◌≡◌ {A = ℕ} 0 1 = cc in omega arith)

pub returns-then-x : goal.returns-then-x
unfolding decimal_of
returns-then-x c = rw (not-number _ c.if-x.true)

pub float_to_bits-x : goal.float_to_bits-x
float_to_bits-x c = number _ c.if-x.false

pub returns : goal.returns
unfolding decimal_of
returns c = rw (is_false (is_nan c.args.x) (number c.args.x c.if-x.false)) c.of_pattern.ensures
