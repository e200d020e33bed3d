-- `tally::add_up` meets its contract.
use Prim.Native.Nat.{◌+◌, ◌*◌}
use mathlib.Core.Path.{◌≡◌, sym, ◌∙◌}
use native.Mathlib.Omega.{arith}
use Rattle.exact.specs.Laws.Sums.{row_length, no_terms}
use Rattle.tally.specs.Tally.{number_in, value_in}
use Rattle.tally.specs.Laws.Tally.{settled_most, sum_more, report_more}
use Rattle.loops.specs.Laws.Each.{row}
use borrow.Author.Rules.{rules}
use Rattle.tally.proofs.add_up.Goals as goal

pub loop-j-init : goal.loop-j-init
loop-j-init c = let p = c.requires in
    (search rules, no_terms _ _ (rw p.1 at c.clear.ensures) (rw p.2 at c.clear-2.ensures), c.nothing-r.ensures)

pub overflow_mul-at : goal.overflow_mul-at
overflow_mul-at c = let l = c.loop-j in
    omega (arith, row l.j c.args.jobs c.args.n c.loop-j-test.true, c.requires.0.vector-room, c.requires.0.inside)

pub overflow_add-at : goal.overflow_add-at
overflow_add-at c = let l = c.loop-j in
    omega (arith, row l.j c.args.jobs c.args.n c.loop-j-test.true, c.requires.0.vector-room, c.requires.0.inside)

pub offset_bounds-vectors-at : goal.offset_bounds-vectors-at
offset_bounds-vectors-at c = let l = c.loop-j in
    omega (arith, row l.j c.args.jobs c.args.n c.loop-j-test.true, c.requires.0.vector-room, c.requires.0.inside)

pub bounds-vectors-at : goal.bounds-vectors-at
bounds-vectors-at c = let l = c.loop-j in
    omega (arith, row l.j c.args.jobs c.args.n c.loop-j-test.true, c.requires.0.vector-room, c.requires.0.inside)

pub take_in-r-requires : goal.take_in-r-requires
take_in-r-requires c = let l = c.loop-j in
    let m = settled_most (number_in c.args.numbers.now) (value_in c.args.n c.args.unknown c.args.vectors.now) l.j in
    rw l.invariant.2 (omega (arith, m, c.loop-j-test.true, c.requires.0.few))

pub loop-j-preserved : goal.loop-j-preserved
loop-j-preserved c = let l = c.loop-j in
    let number = number_in c.args.numbers.now in
    let value = value_in c.args.n c.args.unknown c.args.vectors.now in
    let t = c.loop-j-test.true in (
      search rules,
      sum_more number value l.j l.plus l.minus _ _ l.r _ l.invariant.1 (omega (arith, t, c.requires.0.few)) (c.shared_slice_known-in-loop-j-2-1.given (l.j * c.args.n + c.args.unknown)) (λ e. c.requires.0.finites l.j t e) c.take_in-r.ensures,
      report_more number value l.j l.plus l.minus _ _ l.r _ l.invariant.2 c.take_in-r.ensures,
    )

pub shape_of-plus : goal.shape_of-plus
shape_of-plus c = row_length _ _ c.loop-j.invariant.1.plus_row ∙ sym c.requires.1

pub shape_of-minus : goal.shape_of-minus
shape_of-minus c = row_length _ _ c.loop-j.invariant.1.minus_row ∙ sym c.requires.2

pub returns : goal.returns
returns c = let l = c.loop-j in
    let e : l.j ≡ c.args.jobs = omega (arith, l.invariant.0, c.loop-j-test.false) in
    rw (l.invariant.2, l.invariant.1.plus_row, l.invariant.1.minus_row, e)
