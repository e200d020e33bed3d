-- `judge::row_holds` meets its contract.
use mathlib.Core.Path.{◌∙◌}
use Prim.Native.Nat.{◌+◌, ◌*◌}
use native.Mathlib.Omega.{arith}
use Rattle.exact.specs.Exact.{whole, added, opposite}
use Rattle.exact.specs.Laws.Sums.{one_factor, no_terms, exchanged, one_float, is_kept, is_within}
use Rattle.num.specs.Lists.{«at»}
use Rattle.judge.specs.Judge.{total, residual}
use Rattle.judge.proofs.Every.{factor}
use Rattle.judge.proofs.Places.{Lies, lies}
use Rattle.judge.proofs.row_holds.Goals as goal
use Rattle.judge.proofs.row_holds.Goals.{Start}

-- the row lies within the system
at_row : (s : Start) → Lies s.args.i s.args.n
at_row s = lies s.args.i s.args.n s.requires.1 s.requires.0.most

pub overflow_mul-from : goal.overflow_mul-from
overflow_mul-from c = let r = at_row (goal.at.overflow_mul-from c).Start in omega arith

pub add_row-requires : goal.add_row-requires
add_row-requires c =
    let s = (goal.at.add_row-requires c).Start in
    let r = at_row s in
    (s.requires.0, omega arith, no_terms _ _ c.empty-plus.ensures c.empty-minus.ensures)

pub overflow_add-right : goal.overflow_add-right
overflow_add-right c = let r = at_row (goal.at.overflow_add-right c).Start in omega arith

pub offset_bounds-m-right : goal.offset_bounds-m-right
offset_bounds-m-right c = let r = at_row (goal.at.offset_bounds-m-right c).Start in omega arith

pub bounds-m-right : goal.bounds-m-right
bounds-m-right c = let r = at_row (goal.at.bounds-m-right c).Start in omega arith

pub unwrap-requires : goal.unwrap-requires
unwrap-requires c =
    let s = (goal.at.unwrap-requires c).Start in
    let n = s.args.n in
    let m = s.args.m.now in
    let from = s.args.i * (n + 1) in
    let r = at_row s in
    is_kept n (opposite (total m s.args.x.now from n)) _ _ (exchanged n _ _ _ c.add_row.ensures) _ _ _ _ _ (omega arith)
    (factor m (n * (n + 1)) (from + n) c.type_inv.m s.requires.0.finite_system s.requires.0.system (omega arith)) one_factor c.keep.ensures

pub returns : goal.returns
unfolding residual
returns c =
    let s = (goal.at.returns c).Start in
    let n = s.args.n in
    let m = s.args.m.now in
    let from = s.args.i * (n + 1) in
    let r = at_row s in
    let e = total m s.args.x.now from n in
    let b = «at» m (from + n) in
    let off = one_float n (opposite e) _ _ (exchanged n e _ _ c.add_row.ensures) b _ _ _ (omega arith)
    (factor m (n * (n + 1)) (from + n) c.type_inv.m s.requires.0.finite_system s.requires.0.system (omega arith)) c.keep.ensures in
    c.within.ensures ∙ is_within (n + 1) (residual n m s.args.x.now s.args.i) _ _ (exchanged (n + 1) (added (opposite e) (whole b)) _ _ off) s.args.t (omega arith) s.requires.2
