-- What a pass stamps before its diodes, by how its independent sources ended. Assumes nothing.
use Prim.Native.Nat.{ℕ}
use mathlib.Core.Path.{◌≡◌}
use mathlib.Core.List.{List}
use borrow.Author.Tests.{eq-eqb, ne_eqb}
use lib.Ieee.{Float}
use Rattle.loops.specs.Loop.{copied}
use Rattle.groups.specs.declared.Pass.{Pass}
use Rattle.groups.specs.Sources.{driven_of, independent_of}
use Rattle.groups.specs.Stamping.{completed, linear_of}

module _ (p : Pass) (sheet points : List ℕ) (base x y m₀ : List Float) (code : ℕ) (m : List Float) (driven : driven_of code m ≡ independent_of p sheet points (copied base m₀)) where
  pub ended : (code ≡ 0 → ⊥) → driven_of code m ≡ linear_of p sheet points base x y m₀
  unfolding linear_of
  ended h = rw (← driven, ne_eqb _ _ h)

  pub went_on : code ≡ 0 → (m' : List Float) → m' ≡ completed p sheet x y m → driven_of 0 m' ≡ linear_of p sheet points base x y m₀
  unfolding linear_of
  went_on h m' e = rw (← driven, eq-eqb _ _ h, e)
