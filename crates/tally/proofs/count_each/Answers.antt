-- `tally::count_each` meets its contract.
use Prim.Native.Nat.{ℕ}
use mathlib.Core.List.{◌++◌}
use mathlib.Core.Path.{◌≡◌, ap, ◌∙◌}
use native.Mathlib.Omega.{arith}
use lib.ListN.{drop}
use Rattle.tally.specs.Tally.{number_in, how_many}
use Rattle.loops.specs.Each.{each}
use Rattle.loops.specs.Laws.Each.{each_more}
use borrow.Author.Rules.{rules}
use Rattle.tally.proofs.count_each.Goals as goal

pub loop-k-preserved : goal.loop-k-preserved
loop-k-preserved c = let l = c.loop-k in
    let a = c.args in
    (search rules, search rules, rw (l.invariant.2, c.count.ensures) (each_more (how_many (number_in a.numbers.now) a.jobs) l.k a.counts.now (omega (arith, c.loop-k-test.true, c.requires.1))))

pub returns : goal.returns
returns c = let l = c.loop-k in
    let a = c.args in
    let e : l.k ≡ a.kinds = omega (arith, l.invariant.0, c.loop-k-test.false) in
    l.invariant.2 ∙ ap (λ (i : ℕ). each (how_many (number_in a.numbers.now) a.jobs) i ++ drop i a.counts.now) e
