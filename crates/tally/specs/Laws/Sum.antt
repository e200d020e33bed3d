-- The exact sum: its rows cut nothing off, and what they stand for is the sum as one whole number. And a report over jobs of which none settled. Clients cite kept_sums, net_sum_lem and none_settled. Assumes nothing.
use Rattle.std.specs.Prelude.{ℕ, zero, suc, ◌*◌, ◌^◌, ◌≤◌, ◌<◌, ◌≡◌, refl, Bool, true, false, cond, eqb, ◌+ℤ◌, Float}
use Rattle.std.proofs.Common.{◌∙◌, arith, add-one, eqb-true, ne_eqb}
use Rattle.numbers.specs.Limits.{sum_limbs}
use Rattle.numbers.specs.Verdicts.{settled}
use Rattle.loops.specs.Laws.Loop.{turns_idle}
use Rattle.num.specs.Literals.{one}
use Rattle.exact.specs.Exact.{Exact, none as noSum, whole, added}
use Rattle.exact.specs.Net.{net, signed}
use Rattle.exact.specs.Limbs.{limbs_of}
use Rattle.exact.specs.Kept.{kept_of}
use Rattle.exact.specs.Rows.{cap}
use Rattle.exact.specs.Sums.{Sums}
use Rattle.exact.specs.Laws.Net.{net_added, net_whole}
use Rattle.exact.specs.Laws.Sums.{Factor, no_terms, one_float}
use Rattle.tally.specs.Tally.{nothing, report_step, report_over, sum_step, sum_of, net_sum}

-- the rows of e
abbrev RowsOf : ℕ → Exact → Type 0
RowsOf k e = Sums k e (limbs_of sum_limbs e.plus) (limbs_of sum_limbs e.minus)

-- a term that is none
also : (k : ℕ) (e : Exact) → RowsOf k e → RowsOf (suc k) e
also k e s = record { plus_row = refl; minus_row = refl; plus_few = few _ cap s.plus_few; minus_few = few _ cap s.minus_few }
  where
    few : (v c : ℕ) → v ≤ k * c → v ≤ suc k * c
    few v c u = omega arith

-- one more
and_float : (k : ℕ) (e : Exact) (x : Float) → k < 2 ^ 27 → Factor x → RowsOf k e → RowsOf (suc k) (added e (whole x))
and_float k e x h f s =
    let p = limbs_of sum_limbs e.plus in
    let m = limbs_of sum_limbs e.minus in
    let a = kept_of p m x one in
    let t = one_float k e p m s x a.answer a.plus a.minus h f refl in
    record { plus_row = refl; minus_row = refl; plus_few = rw add-one at t.plus_few; minus_few = rw add-one at t.minus_few }

module _ (number : ℕ → ℕ) (value : ℕ → Float) where
  -- up to 2 ^ 27 jobs: each side of the sum has room in its row
  pub kept_sums : (n : ℕ) → n ≤ 2 ^ 27 → ((j : ℕ) → j < n → number j ≡ settled → Factor (value j)) → Sums n (sum_of number value n) (limbs_of sum_limbs (sum_of number value n).plus) (limbs_of sum_limbs (sum_of number value n).minus)
  kept_sums zero h f = no_terms _ _ refl refl
  kept_sums (suc j) h f = go (kept_sums j (omega arith) (λ i l. f i (omega arith))) (eqb (number j) settled) refl
    where
      go : RowsOf j (sum_of number value j) → (b : Bool) → eqb (number j) settled ≡ b → RowsOf (suc j) (cond b (added (sum_of number value j) (whole (value j))) (sum_of number value j))
      go s true t = and_float j (sum_of number value j) (value j) (omega arith) (f j (omega arith) (eqb-true _ _ t)) s
      go s false t = also j (sum_of number value j) s

  -- the two sides' difference is the sum of the settled jobs' values
  pub net_sum_lem : (n : ℕ) → net (sum_of number value n) ≡ net_sum number value n
  net_sum_lem zero = refl
  net_sum_lem (suc j) = go (net_sum_lem j) (eqb (number j) settled)
    where
      go : net (sum_of number value j) ≡ net_sum number value j → (b : Bool) → net (cond b (added (sum_of number value j) (whole (value j))) (sum_of number value j)) ≡ cond b (net_sum number value j +ℤ signed (value j)) (net_sum number value j)
      go e true = net_added (sum_of number value j) (whole (value j)) ∙ (λ i. e i +ℤ net_whole (value j) i)
      go e false = e

  -- "With no settled run, smallest, largest and sum are 0"
  pub none_settled : (n : ℕ) → ((j : ℕ) → j < n → number j ≡ settled → ⊥) → (report_over number value n ≡ nothing) × (sum_of number value n ≡ noSum)
  none_settled n h = (
    turns_idle (report_step number value) nothing 0 n (omega arith) (λ i l u. rw (ne_eqb (number i) settled (h i u))),
    turns_idle (sum_step number value) noSum 0 n (omega arith) (λ i l u. rw (ne_eqb (number i) settled (h i u))),
  )
