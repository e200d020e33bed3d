-- `solve::pivot::search` meets its contract. Assumes nothing.
use mathlib.Core.Path.{◌≡◌, refl, ap}
use Prim.Native.Nat.{ℕ, ◌<◌}
use native.Mathlib.Omega.{arith}
use lib.ListN.{length, length-set}
use lib.Ieee.{Float}
use Rattle.solve.specs.Solve.{row_start, index_of_next_abs}
use Rattle.solve.proofs.Search.{not_ne, best_first, best_next, best_same, best_row, rows_longer}
use Rattle.solve.proofs.Listed.{list_starts, list_same, list_longer}
use borrow.Author.Rules.{rules}
use Rattle.solve.proofs.pivot.search.Goals as goal
use Rattle.solve.proofs.pivot.search.Goals.{then-x, else-x}

pub loop-r-init : goal.loop-r-init
loop-r-init c =
    let a = c.args in
    let e = rw c.entry.ensures at c.or-best.ensures in
    (search rules, search rules, search rules, refl, best_row a.n a.k _ _ _ e (search rules) (search rules), best_first (row_start a.n) a.k a.m.now _ e, λ i l. absurd (omega arith), list_starts a.n a.k a.list.now a.m.now)

pub loop-r-preserved : goal.loop-r-preserved
loop-r-preserved c =
    let l = c.loop-r in
    let a = c.args in
    let here = c.entry-x.ensures in
    let room : l.count < length l.list = omega arith in
    elim c.if-x.branch [
      | then-x w ↦
          let e = rw here at w.or-best-then-x.ensures in (
            search rules,
            search rules,
            rw w.count-is (omega arith),
            rw w.list-is (simp length-set l.invariant.3),
            rw w.best-is (best_row a.n l.r _ _ _ e l.invariant.4 (omega arith)),
            rw w.best-is (best_next (row_start a.n) a.k l.r a.m.now _ (omega arith) l.invariant.5 _ e),
            rw (w.count-is, w.list-is) (rows_longer a.n l.count l.r l.list l.invariant.6 room (omega arith)),
            rw (w.count-is, w.list-is) (list_longer a.n a.k l.list a.m.now l.r l.count (omega arith) (omega arith) l.invariant.7 room),
          )
      | else-x w ↦
          let z = rw here at (not_ne _ w.if-x.false) in (
            search rules,
            search rules,
            rw w.count-is (omega arith),
            rw w.list-is l.invariant.3,
            rw w.best-is l.invariant.4,
            rw w.best-is (best_same (row_start a.n) a.k l.r a.m.now _ (omega arith) l.invariant.5 z),
            rw (w.count-is, w.list-is) l.invariant.6,
            rw (w.count-is, w.list-is) (list_same a.n a.k l.list a.m.now l.r l.count (omega arith) (omega arith) l.invariant.7 z),
          )
    ]

pub returns : goal.returns
unfolding index_of_next_abs
returns c =
    let l = c.loop-r in
    let a = c.args in
    let e : l.r ≡ a.n = omega arith in
    (ap (λ (s : Float × ℕ). s.1) (rw e at l.invariant.5), l.invariant.4, omega arith, l.invariant.6, rw e at l.invariant.7)
