-- `solve::pivot::next_abs` meets its contract. Assumes nothing.
use Rattle.std.proofs.Common.{◌≡◌, ℕ, ◌+◌, ◌*◌, ◌-◌, ◌<◌, ⊎_elim, ap, ◌∙◌, arith, rules}
use Rattle.std.specs.Prelude.{Float}
use Rattle.solve.specs.Solve.{row_start}
use Rattle.solve.specs.Inner.{unsigned_of, first_of}
use Rattle.solve.proofs.Search.{best_row}
use Rattle.solve.proofs.Lanes.{Joined, started, one_row, two_rows, first_of_lem}
use Rattle.solve.proofs.pivot.next_abs.Goals as goal
use Rattle.solve.proofs.pivot.next_abs.Goals.{then-end-k-eq1, else-end-k-eq1}

-- both searches are at the end
found : (end r : ℕ) (a b s : Float × ℕ) → Joined a b s → r ≡ first_of a b → a.1 < end → b.1 < end → (r ≡ s.1) × (r < end)
found end r a b s j e p q =
    let f : r ≡ s.1 = e ∙ first_of_lem j in
    (f, ⊎_elim (λ u. omega (arith, ap (λ (x : Float × ℕ). x.1) u)) (λ u. omega (arith, ap (λ (x : Float × ℕ). x.1) u)) j.which)

pub loop-i-init : goal.loop-i-init
loop-i-init c = (search rules, search rules, search rules, search rules, started _)

pub loop-i-preserved : goal.loop-i-preserved
loop-i-preserved c =
    let l = c.loop-i in
    let a = c.args in
    let p = c.or-best.ensures in
    let q = c.or-other.ensures in
    let u = ap unsigned_of c.entry.ensures in
    let v = ap unsigned_of c.entry-in-loop-i.ensures in
    let next : 2 * (l.i + 1) ≡ 2 * l.i + 2 = omega arith in
    let past = a.k + 2 * (l.i + 1) + 1 in (
      best_row a.end (a.k + 2 * l.i) _ _ _ p l.invariant.0 (omega arith),
      best_row a.end (a.k + 2 * l.i + 1) _ _ _ q l.invariant.1 (omega arith),
      omega (arith, best_row past (a.k + 2 * l.i) _ (l.best.size, l.best.row) (c.or-best.result.size, c.or-best.result.row) p (omega arith) (omega arith)),
      omega (arith, best_row past (a.k + 2 * l.i + 1) _ (l.other.size, l.other.row) (c.or-other.result.size, c.or-other.result.row) q (omega arith) (omega arith)),
      rw (p, q, next) (two_rows (row_start a.n) a.k (2 * l.i) a.m.now _ _ l.invariant.4 l.invariant.2 l.invariant.3 _ _ u v),
    )

pub returns : goal.returns
returns c =
    let l = c.loop-i in
    let a = c.args in
    elim c.if-end-k-eq1.branch [
      | then-end-k-eq1 w ↦
          let here : a.end - 1 ≡ a.k + 2 * l.i = omega arith in
          let all : a.end - a.k ≡ 2 * l.i + 1 = omega arith in
          let p = rw here at w.or-best-then-end-k-eq1.ensures in
          let u = ap unsigned_of (rw here at w.entry-then-end-k-eq1.ensures) in
          let j = rw (← p) at (one_row (row_start a.n) a.k (2 * l.i) a.m.now _ _ l.invariant.4 l.invariant.2 l.invariant.3 _ u) in
          rw all (found a.end _ _ _ _ j (rw w.best-is at c.first.ensures) (best_row a.end (a.k + 2 * l.i) _ _ _ p l.invariant.0 (omega arith)) l.invariant.1)
      | else-end-k-eq1 w ↦
          let all : a.end - a.k ≡ 2 * l.i = omega arith in
          rw all (found a.end _ _ _ _ l.invariant.4 (rw w.best-is at c.first.ensures) l.invariant.0 l.invariant.1)
    ]
