-- `sheet::has_inductors` meets its contract: the records passed have been asked, each by its first byte. Assumes nothing.
use borrow.Author.Rules.{rules}
use Prim.Native.Nat.{ℕ, ◌+◌, ◌*◌, ◌/◌, ◌<◌}
use mathlib.Core.Path.{◌≡◌, refl, sym, ap, ◌∙◌}
use mathlib.Core.Bool.{Bool, ◌||◌}
use mathlib.Core.List.{List}
use native.Mathlib.Nat.{le_antisymm}
use native.Mathlib.Numerals.{add-one}
use native.Mathlib.Omega.{arith}
use lib.Dec.{eqb}
use Rattle.numbers.specs.Kinds.{inductor}
use Rattle.sheet.specs.Record.{kind_at}
use Rattle.sheet.specs.Laws.Record.{first_byte}
use Rattle.sheet.specs.Sharing.{inductor_among}
use Rattle.sheet.proofs.has_inductors.Goals as goal

-- one record more
asked : (sheet : List ℕ) (i k : ℕ) (found : Bool) → k ≡ kind_at sheet i → found ≡ inductor_among sheet i → (found || eqb k inductor) ≡ inductor_among sheet (i + 1)
unfolding inductor_among
asked sheet i k found e f = rw (add-one i, e, f)

-- a record's first byte is in the sheet
inside : (n i count : ℕ) → count ≡ n / 40 → i < count → 40 * i < n
inside n i count e h = omega (arith, e, h)

pub loop-i-init : goal.loop-i-init
unfolding inductor_among
loop-i-init c = (omega arith, refl)

pub overflow_mul-found : goal.overflow_mul-found
overflow_mul-found c = let h = inside _ _ _ c.records-count.ensures c.loop-i-test.true in search (rules, h)

pub bounds-sheet-i : goal.bounds-sheet-i
bounds-sheet-i c = inside _ _ _ c.records-count.ensures c.loop-i-test.true

pub loop-i-preserved : goal.loop-i-preserved
loop-i-preserved c =
    let l = c.loop-i in
    let s = c.args.sheet.now in
    (search rules, asked s l.i _ l.found (sym (first_byte s l.i)) l.invariant.1)

pub returns : goal.returns
returns c =
    let l = c.loop-i in
    l.invariant.1 ∙ ap (inductor_among _) (le_antisymm l.invariant.0 c.loop-i-test.false ∙ c.records-count.ensures)
