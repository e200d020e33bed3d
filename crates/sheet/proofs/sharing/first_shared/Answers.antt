-- `sheet::sharing::first_shared` meets its contract: without an inductor no record shares a number that it may not. Assumes nothing.
use Prim.Native.Nat.{ℕ}
use mathlib.Core.Path.{◌≡◌, sym, ◌∙◌}
use mathlib.Core.Bool.{false}
use mathlib.Core.List.{List}
use native.Mathlib.Omega.{arith}
use Rattle.sheet.specs.Record.{record_at}
use Rattle.sheet.specs.Sharing.{inductor_among, FirstShared}
use Rattle.sheet.specs.Laws.Sharing.{none_among, without_inductor}
use Rattle.sheet.proofs.sharing.first_shared.Goals as goal

none : (s : List ℕ) (n p : ℕ) → p ≡ n → inductor_among s n ≡ false → FirstShared s n p
none s n p e h =
    record {
      before = λ i m l. without_inductor s i (record_at s i) (λ j k. none_among s n h j (omega (arith, k, l))) (none_among s n h i l);
      there = λ m. absurd (omega (arith, e, m));
    }

pub returns-then-not-has_inductors : goal.returns-then-not-has_inductors
returns-then-not-has_inductors c = none _ _ _ c.records-count.ensures (sym c.has_inductors.ensures ∙ c.if-not-has_inductors.true)

pub returns : goal.returns
returns c = rw c.records-count.ensures at c.first_from.ensures
