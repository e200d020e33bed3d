-- A loop over the records of a sheet that stamps what a group f writes: its invariant, its start, one record more, and its end. Assumes nothing.
use Prim.Native.Nat.{ℕ, ◌+◌, ◌≤◌, ◌<◌}
use mathlib.Core.Path.{◌≡◌, refl, sym, ap, ◌∙◌}
use mathlib.Core.List.{List, []}
use native.Mathlib.Nat.{le_antisymm}
use native.Mathlib.Numerals.{add-one}
use native.Mathlib.Omega.{arith}
use lib.ListN.{length}
use lib.Ieee.{Float}
use Rattle.sheet.specs.declared.Element.{Element}
use Rattle.numbers.specs.declared.refusal.Refusal.{Refusal}
use Rattle.std.specs.Prelude.{Option, Result}
use Rattle.sheet.specs.Check.{records_of}
use Rattle.stamps.specs.Write.{Write, stamped}
use Rattle.stamps.specs.Laws.Write.{joined, stamped-length}
use Rattle.groups.specs.Records.{element_at, on_record, record_in, writes_of}
use Rattle.groups.specs.Laws.Passing.{Quiet, in_group}

module _ (f : ℕ → Element → List Write) (n : ℕ) (sheet : List ℕ) (m₀ : List Float) where
  -- what the first i records make of m₀
  abbrev pub after : ℕ → List Float
  after i = stamped n (writes_of f sheet i) m₀

  -- at record i of so many, with the matrix m
  abbrev pub Walking : ℕ → ℕ → List Float → Type 0
  Walking count i m = (i ≤ count) × (length m ≡ length m₀) × (m ≡ after i)

  pub at_first : (count : ℕ) → Walking count 0 m₀
  unfolding writes_of stamped
  at_first count = (omega arith, refl, refl)

  -- record i, which the group reads as d: it passes by what writes nothing
  pub one_more_lem : {E : Type 0} (count i : ℕ) (m m' : List Float) (d : Result Element E) → i < count → Walking count i m → on_record (f i) [] d ≡ on_record (f i) [] (element_at sheet i) → m' ≡ stamped n (on_record (f i) [] d) m → Walking count (i + 1) m'
  unfolding writes_of
  one_more_lem count i m m' d l w r e =
      let k : m' ≡ after (i + 1)
      = rw add-one
      (e
      ∙ (ap (λ (ws : List Write). stamped n ws m) r
      ∙ (ap (stamped n (on_record (f i) [] (element_at sheet i))) w.2 ∙ sym (joined n (writes_of f sheet i) (on_record (f i) [] (element_at sheet i)) m₀)))) in
      (omega arith, ap (λ (x : List Float). length x) k ∙ stamped-length n _ m₀, k)

  pub at_last : (count i : ℕ) (m : List Float) → count ≡ records_of sheet → count ≤ i → Walking count i m → m ≡ after (records_of sheet)
  at_last count i m k l w = w.2 ∙ ap after (le_antisymm w.0 l ∙ k)

-- the same for a group of neighbouring kinds that is not told the number
module _ (f : Element → List Write) (low high n : ℕ) (sheet : List ℕ) (m₀ : List Float) (quiet : Quiet low high f []) where
  pub one_more_in : (count i : ℕ) (m m' : List Float) (d : Result Element (Option Refusal)) → i < count → Walking (λ _. f) n sheet m₀ count i m → d ≡ record_in low high sheet i → m' ≡ stamped n (on_record f [] d) m → Walking (λ _. f) n sheet m₀ count (i + 1) m'
  one_more_in count i m m' d l w r e =
      one_more_lem (λ _. f) n sheet m₀ count i m m' d l w (ap (on_record f []) r ∙ in_group low high sheet i f [] quiet) e
