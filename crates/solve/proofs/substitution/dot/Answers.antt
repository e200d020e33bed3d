-- `solve::substitution::dot` meets its contract. Assumes nothing.
use mathlib.Core.Path.{◌≡◌}
use mathlib.Core.List.{List}
use Prim.Native.Nat.{ℕ, ◌+◌}
use native.Mathlib.Nat.{add-zero}
use lib.Ieee.{Float, binary64, add, mul}
use Rattle.num.specs.Floats.{nought}
use Rattle.loops.specs.Loop.{turns}
use Rattle.num.specs.Lists.{«at»}
use Rattle.solve.specs.Solve.{row_start, add_one}
use borrow.Author.Rules.{rules}
use Rattle.solve.proofs.substitution.dot.Goals as goal

-- the sum's first term, with the unknown that comes by value
first-term : (n i start : ℕ) (m x : List Float) (next : Float) → start ≡ row_start n i → next ≡ «at» x (i + 1) → add binary64 nought (mul binary64 («at» m (start + (i + 1))) next) ≡ turns 1 (add_one (row_start n) m x i) nought
first-term n i start m x next e h = rw (e, h, add-zero (i + 1))

pub sparse_rest-requires : goal.sparse_rest-requires
sparse_rest-requires c =
    let a = c.args in
    let h = c.requires in
    (search rules, search rules, search rules, search rules, h.5 c.if-tame.true, first-term a.n a.i _ a.m.now a.x.now a.next c.row_start.ensures.0 h.1)

pub rest-requires : goal.rest-requires
rest-requires c =
    let a = c.args in
    (search rules, search rules, search rules, search rules, search rules, first-term a.n a.i _ a.m.now a.x.now a.next c.row_start.ensures.0 c.requires.1)
