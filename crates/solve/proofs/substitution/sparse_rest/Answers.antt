-- `solve::substitution::sparse_rest` meets its contract. Assumes nothing.
use Rattle.std.proofs.Common.{◌≡◌, ◌+◌, ◌*◌, ◌-◌, ◌/◌, sym, ◌∙◌, arith, rules}
use Rattle.solve.specs.Solve.{row_start}
use Rattle.solve.proofs.Terms.{four_added, four_skipped}
use Rattle.solve.proofs.substitution.sparse_rest.Goals as goal
use Rattle.solve.proofs.substitution.sparse_rest.Goals.{then-not-four_zeros, else-not-four_zeros}

pub loop-q-preserved : goal.loop-q-preserved
loop-q-preserved c =
    let l = c.loop-q in
    let a = c.args in
    let z = c.four_zeros.ensures in
    let j = 1 + 4 * l.q in
    let start = c.row_start-start.ensures.0 in
    let next : 1 + 4 * (l.q + 1) ≡ j + 4 = omega arith in
    rw next
    (elim c.if-not-four_zeros.branch [
      | then-not-four_zeros w ↦ rw w.s-is (w.four_more-s.ensures ∙ four_added (row_start a.n) a.m.now a.x.now a.i j _ l.s start l.invariant)
      | else-not-four_zeros w ↦ rw w.s-is (four_skipped (row_start a.n) a.m.now a.x.now a.i j _ l.s start l.invariant a.n c.requires.4 (omega arith) (sym z ∙ w.if-not-four_zeros.false))
    ])

pub rest-requires : goal.rest-requires
rest-requires c =
    let l = c.loop-q in
    let a = c.args in
    let all : (a.n - (a.i + 2)) / 4 ≡ l.q = omega arith in
    (search rules, search rules, search rules, search rules, omega arith, rw all l.invariant)
