-- `groups::storage::storage_at` meets its contract: by the tests on the kind byte; a record of another kind writes nothing. Assumes nothing.
use Prim.Native.Nat.{ℕ, ◌<◌}
use mathlib.Core.Path.{◌≡◌, sym, ◌∙◌}
use mathlib.Core.Bool.{Bool, true, and-eq-true_iff as both}
use native.Mathlib.Omega.{arith}
use borrow.Author.Tests.{ne_eqb, eqb-true}
use Rattle.sheet.specs.Record.{kind_at}
use Rattle.sheet.specs.Laws.Record.{decode_own}
use Rattle.stamps.specs.Write.{stamped}
use Rattle.groups.specs.Storage.{unstored}
use Rattle.groups.specs.Laws.Storage.{unstored_nothing}
use Rattle.groups.proofs.storage.storage_at.Goals as goal

-- the kinds before the capacitor's
earlier : (t : Bool) (k : ℕ) → k < 8 → unstored t k ≡ true
earlier t k h = rw (ne_eqb k 11 (λ q. omega (arith, h, q)), ne_eqb k 8 (λ q. omega (arith, h, q)))

pub returns-then-k-number : goal.returns-then-k-number
unfolding stamped
returns-then-k-number c =
    let a = c.args in
    let few = earlier a.p.transient (kind_at a.sheet.now a.i) (rw (c.kind_at-k.ensures, c.number.ensures) at c.if-k-number.true) in
    rw (unstored_nothing a.p a.x.now a.memory.now a.sheet.now a.i few)

pub returns-then-k-number-2 : goal.returns-then-k-number-2
returns-then-k-number-2 c =
    let k = sym c.kind_at-k.ensures ∙ (c.if-k-number-2.true ∙ c.number-2.ensures) in
    rw (c.element_as.ensures ∙ decode_own _ _ (sym k)) at c.storage_one.ensures

pub returns-then-k-number-3 : goal.returns-then-k-number-3
returns-then-k-number-3 c =
    let b = (both _ _).0 c.if-k-number-3.true in
    let k = sym c.kind_at-k.ensures ∙ (eqb-true _ _ b.0 ∙ c.number-3.ensures) in
    rw (c.element_as-then-k-number-3.ensures ∙ decode_own _ _ (sym k)) at c.storage_one-then-k-number-3.ensures

pub returns-else-k-number-3 : goal.returns-else-k-number-3
unfolding stamped
returns-else-k-number-3 c =
    let a = c.args in
    let e = c.kind_at-k.ensures in
    let other : unstored a.p.transient (kind_at a.sheet.now a.i) ≡ true = rw (← e, ne_eqb _ _ (λ q. c.if-k-number-2.false (q ∙ sym c.number-2.ensures)), rw c.number-3.ensures at c.if-k-number-3.false) in
    rw (unstored_nothing a.p a.x.now a.memory.now a.sheet.now a.i other)
