-- `judge::add_row` meets its contract.
use borrow.Author.Rules.{rules}
use mathlib.Core.Path.{◌≡◌, sym, ◌∙◌, subst}
use Prim.Native.Nat.{ℕ, ◌+◌, ◌*◌}
use native.Mathlib.Omega.{arith}
use Rattle.exact.specs.Exact.{Exact}
use Rattle.exact.specs.Sums.{Sums}
use Rattle.exact.specs.Laws.Sums.{row_length, is_kept, one_more_lem}
use Rattle.judge.specs.Judge.{total}
use Rattle.judge.proofs.Every.{factor}
use Rattle.judge.proofs.Places.{more, nothing}
use Rattle.judge.proofs.add_row.Goals as goal

pub loop-j-init : goal.loop-j-init
loop-j-init c =
    (search rules, subst (λ (e : Exact). Sums 0 e c.args.plus.now c.args.minus.now) (nothing c.args.m.now c.args.x.now c.args.from) c.requires.2)

pub unwrap-requires : goal.unwrap-requires
unwrap-requires c =
    let l = c.loop-j in
    let m = c.args.m.now in
    let x = c.args.x.now in
    let r = c.requires.0 in
    is_kept l.j (total m x c.args.from l.j) l.plus l.minus l.invariant.1 _ _ _ _ _ (omega arith)
    (factor m (c.args.n * (c.args.n + 1)) (c.args.from + l.j) c.type_inv.m r.finite_system r.system (omega arith))
    (factor x c.args.n l.j c.type_inv.x r.finite_vector r.vector (omega arith))
    c.keep_product.ensures

pub loop-j-preserved : goal.loop-j-preserved
loop-j-preserved c =
    let l = c.loop-j in
    let m = c.args.m.now in
    let x = c.args.x.now in
    let r = c.requires.0 in (
      search rules,
      rw (more m x c.args.from l.j) at (one_more_lem l.j (total m x c.args.from l.j) l.plus l.minus l.invariant.1 _ _ _ _ _ (omega arith)
          (factor m (c.args.n * (c.args.n + 1)) (c.args.from + l.j) c.type_inv.m r.finite_system r.system (omega arith))
          (factor x c.args.n l.j c.type_inv.x r.finite_vector r.vector (omega arith))
          c.keep_product.ensures),
    )

pub shape_of-plus : goal.shape_of-plus
shape_of-plus c = row_length _ _ c.loop-j.invariant.1.plus_row ∙ sym (row_length _ _ c.requires.2.plus_row)

pub shape_of-minus : goal.shape_of-minus
shape_of-minus c = row_length _ _ c.loop-j.invariant.1.minus_row ∙ sym (row_length _ _ c.requires.2.minus_row)

pub returns : goal.returns
returns c =
    let l = c.loop-j in
    let e : l.j ≡ c.args.n = omega arith in
    subst (λ (k : ℕ). Sums k (total c.args.m.now c.args.x.now c.args.from k) l.plus l.minus) e l.invariant.1
