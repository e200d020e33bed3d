-- `passes::fits` meets its contract.
use Prim.Native.Nat.{◌*◌}
use native.Mathlib.Omega.{arith}
use native.Mathlib.Nat.{mul-le-mul, lt_of_le_of_lt}
use lib.Dec.{lit<}
use borrow.Author.Tests.{lt-leb, le-leb, eq-eqb, ne_eqb}
use Rattle.passes.specs.Sized.{fits}
use Rattle.passes.proofs.fits.Goals as goal

pub returns-then-n-lt1 : goal.returns-then-n-lt1
unfolding fits
returns-then-n-lt1 c = rw (lt-leb _ _ c.if-n-lt1.true)

pub returns-then-n-gt-UNKNOWNS : goal.returns-then-n-gt-UNKNOWNS
unfolding fits
returns-then-n-gt-UNKNOWNS c = rw (le-leb _ _ c.if-n-lt1.false, lt-leb _ _ c.if-n-gt-UNKNOWNS.true)

pub returns-then-accepted-n : goal.returns-then-accepted-n
unfolding fits
returns-then-accepted-n c = rw (le-leb _ _ c.if-n-lt1.false, le-leb _ _ c.if-n-gt-UNKNOWNS.false, ne_eqb _ _ c.if-accepted-n.true)

pub overflow_mul-size : goal.overflow_mul-size
overflow_mul-size c = record { fits = lt_of_le_of_lt (mul-le-mul {n₂ = 48} {m₂ = 49} c.if-n-gt-UNKNOWNS.false (omega arith)) (lit< {m = 48 * 49} tt) }

pub returns-then-w-size : goal.returns-then-w-size
unfolding fits
returns-then-w-size c = rw (le-leb _ _ c.if-n-lt1.false, le-leb _ _ c.if-n-gt-UNKNOWNS.false, eq-eqb _ _ c.if-accepted-n.false, ne_eqb _ _ c.if-w-size.true)

pub returns-then-w-size-2 : goal.returns-then-w-size-2
unfolding fits
returns-then-w-size-2 c = rw (le-leb _ _ c.if-n-lt1.false, le-leb _ _ c.if-n-gt-UNKNOWNS.false, eq-eqb _ _ c.if-accepted-n.false, eq-eqb _ _ c.if-w-size.false, ne_eqb _ _ c.if-w-size-2.true)

pub returns : goal.returns
unfolding fits
returns c = rw (le-leb _ _ c.if-n-lt1.false, le-leb _ _ c.if-n-gt-UNKNOWNS.false, eq-eqb _ _ c.if-accepted-n.false, eq-eqb _ _ c.if-w-size.false, eq-eqb _ _ c.if-w-size-2.false)
