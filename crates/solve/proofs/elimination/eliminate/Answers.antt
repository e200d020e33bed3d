-- `solve::elimination::eliminate` meets its contract. Assumes nothing.
use Rattle.std.proofs.Common.{◌≡◌, ◌+◌, ◌-◌, ◌≤◌, ◌<◌, ℕ, Bool, true, false, List, refl, sym, ap, ◌∙◌, arith, rules}
use Rattle.std.specs.Prelude.{Float}
use Rattle.loops.specs.Loop.{turns}
use Rattle.loops.specs.Laws.Loop.{more, turns_idle}
use Rattle.solve.specs.Solve.{row_start, column, column_next, eliminated}
use Rattle.solve.proofs.elimination.eliminate.Goals as goal

-- column k, after those before it: e says that it is taken, and t what it leaves
taken : (n k : ℕ) (m₀ m m₁ : List Float) (going b : Bool) → 0 < k → ◌≡◌ {A = Bool × List Float} (true, m) (turns (k - 1) (column_next (row_start n) n) (true, m₀)) → ◌≡◌ {A = Bool × List Float} (going, m₁) (column (row_start n) n k m) → going ≡ b
    → ◌≡◌ {A = Bool × List Float} (b, m₁) (turns k (column_next (row_start n) n) (true, m₀))
taken n k m₀ m m₁ going b h e t g =
    let here : k - 1 + 1 ≡ k = omega arith in
    rw (← g) (t ∙ (rw here at (more (column_next (row_start n) n) _ _ (k - 1) e)))

-- after a zero pivot nothing is taken any more
stopped : (n k : ℕ) (m₀ m : List Float) → k ≤ n - 2 → ◌≡◌ {A = Bool × List Float} (false, m) (turns k (column_next (row_start n) n) (true, m₀)) → m ≡ eliminated n m₀
unfolding eliminated
stopped n k m₀ m h e =
    ap (λ (s : Bool × List Float). s.1) (e ∙ sym (turns_idle (column_next (row_start n) n) (true, m₀) k (n - 2) h (λ i p q. rw (← e) refl)))

pub returns-then-not-column : goal.returns-then-not-column
returns-then-not-column c =
    let k = c.loop-k.k in
    let a = c.args in
    stopped a.n k a.m.now _ (omega arith) (taken a.n k a.m.now _ _ _ false (search rules) c.loop-k.invariant.1 c.column.ensures c.if-not-column.true)

pub loop-k-preserved : goal.loop-k-preserved
loop-k-preserved c =
    let k = c.loop-k.k in
    let a = c.args in
    let next : k + 1 - 1 ≡ k = omega arith in
    (search rules, rw next (taken a.n k a.m.now _ _ _ true (search rules) c.loop-k.invariant.1 c.column.ensures c.if-not-column.false))

pub returns : goal.returns
unfolding eliminated
returns c =
    let e : c.loop-k.k - 1 ≡ c.args.n - 2 = omega arith in
    ap (λ (s : Bool × List Float). s.1) (rw e at c.loop-k.invariant.1)
