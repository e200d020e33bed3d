-- `tally::all_finite` meets its contract.
use mathlib.Core.Path.{◌∙◌}
use mathlib.Core.Bool.{true}
use native.Mathlib.Omega.{arith}
use lib.ListN.{length}
use Rattle.loops.specs.Laws.Each.{row}
use Rattle.loops.specs.Laws.Loop.{more, done}
use Rattle.tally.specs.Tally.{number_in, value_in, finite_step}
use Rattle.tally.specs.Laws.Ready.{room}
use borrow.Author.Rules.{rules}
use Rattle.tally.proofs.all_finite.Goals as goal

pub overflow_mul-at : goal.overflow_mul-at
overflow_mul-at c =
    let a = c.args in
    let r = room a.jobs a.n a.unknown (length a.numbers.now) (length a.vectors.now) c.requires in
    omega (arith, row c.loop-j.j a.jobs a.n c.loop-j-test.true, r.vector-room, r.inside)

pub overflow_add-at : goal.overflow_add-at
overflow_add-at c =
    let a = c.args in
    let r = room a.jobs a.n a.unknown (length a.numbers.now) (length a.vectors.now) c.requires in
    omega (arith, row c.loop-j.j a.jobs a.n c.loop-j-test.true, r.vector-room, r.inside)

pub offset_bounds-numbers-j : goal.offset_bounds-numbers-j
offset_bounds-numbers-j c =
    let a = c.args in
    let r = room a.jobs a.n a.unknown (length a.numbers.now) (length a.vectors.now) c.requires in
    omega (arith, c.loop-j-test.true, r.number-room)

pub bounds-numbers-j : goal.bounds-numbers-j
bounds-numbers-j c =
    let a = c.args in
    let r = room a.jobs a.n a.unknown (length a.numbers.now) (length a.vectors.now) c.requires in
    omega (arith, c.loop-j-test.true, r.number-room)

pub offset_bounds-vectors-at : goal.offset_bounds-vectors-at
offset_bounds-vectors-at c =
    let a = c.args in
    let r = room a.jobs a.n a.unknown (length a.numbers.now) (length a.vectors.now) c.requires in
    omega (arith, row c.loop-j.j a.jobs a.n c.loop-j-test.true, r.vector-room, r.inside)

pub bounds-vectors-at : goal.bounds-vectors-at
bounds-vectors-at c =
    let a = c.args in
    let r = room a.jobs a.n a.unknown (length a.numbers.now) (length a.vectors.now) c.requires in
    omega (arith, row c.loop-j.j a.jobs a.n c.loop-j-test.true, r.vector-room, r.inside)

pub loop-j-preserved : goal.loop-j-preserved
loop-j-preserved c =
    let a = c.args in
    let l = c.loop-j in
    (search rules, c.still-all.ensures ∙ more (finite_step (number_in a.numbers.now) (value_in a.n a.unknown a.vectors.now)) _ true l.j l.invariant.1)

pub returns : goal.returns
returns c =
    let a = c.args in
    let l = c.loop-j in
    done (finite_step (number_in a.numbers.now) (value_in a.n a.unknown a.vectors.now)) _ true l.j a.jobs l.invariant.0 c.loop-j-test.false l.invariant.1
