-- The report and the sum with one job more. Clients cite many_most, many_more, settled_most, sum_more and report_more. Assumes nothing.
use Prim.Native.Nat.{ℕ, zero, suc, ◌+◌, ◌*◌, ◌^◌, ◌≤◌, ◌<◌}
use Rattle.std.specs.Prelude.{◌≡◌, refl, Bool, List, T, eqb, Float}
use Rattle.std.proofs.Common.{sym, ap, subst, add-one, eqb-true}
use Rattle.std.proofs.Math.Bool.{true, false, cond}
use native.Mathlib.Omega.{arith}
use Rattle.std.specs.Float.{binary64}
use Rattle.std.specs.Float.Ieee.{fits}
use Rattle.std.specs.Float.Ieee.Scale.{finite}
use Rattle.exact.specs.Exact.{whole, added}
use Rattle.num.specs.Literals.{one}
use Rattle.exact.specs.Kept.{kept_of}
use Rattle.exact.specs.Rows.{cap}
use Rattle.exact.specs.Sums.{Sums}
use Rattle.exact.specs.Laws.Sums.{one_float}
use Rattle.tally.specs.declared.Report.{Report}
use Rattle.tally.specs.Tally.{how_many, peak_of, lower, upper, reported, with_job, report_over, sum_of, Totals, totals_of, taken}

module _ (number : ℕ → ℕ) (k : ℕ) where
  pub many_most : (j : ℕ) → how_many number j k ≤ j
  unfolding how_many
  many_most zero = omega arith
  many_most (suc j) = go (eqb (number j) k) (how_many number j k) (many_most j)
    where
      go : (b : Bool) (n : ℕ) → n ≤ j → cond b (n + 1) n ≤ suc j
      go true n h = omega arith
      go false n h = omega arith

  pub many_more : (j c : ℕ) → c ≡ how_many number j k → cond (eqb (number j) k) (c + 1) c ≡ how_many number (j + 1) k
  unfolding how_many
  many_more j c e = rw e (ap (λ (n : ℕ). how_many number n k) (sym (add-one j)))

-- no more settled than jobs
pub settled_most : (number : ℕ → ℕ) (value : ℕ → Float) (j : ℕ) → (report_over number value j).settled ≤ j
unfolding with_job
settled_most number value zero = omega arith
settled_most number value (suc j) = go (eqb (number j) 0) (report_over number value j) (settled_most number value j)
  where
    first : (b : Bool) (r : Report) → r.settled ≤ j → (cond b (reported 1 (peak_of (value j) j) (peak_of (value j) j)) (reported (r.settled + 1) (lower j (value j) (peak_of r.smallest r.smallest_at)) (upper j (value j) (peak_of r.largest r.largest_at)))).settled ≤ suc j
    first true r h = omega arith
    first false r h = omega arith

    go : (b : Bool) (r : Report) → r.settled ≤ j → (cond b (with_job j (value j) r) r).settled ≤ suc j
    go true r h = first (eqb r.settled 0) r h
    go false r h = omega arith

-- the sum of the first j jobs, and job j taken in where it settled
pub sum_more : (number : ℕ → ℕ) (value : ℕ → Float) (j : ℕ) (p m p' m' : List ℕ) (r a : Report) → Sums j (sum_of number value j) p m → j < 2 ^ 27 → T (fits binary64 (value j)) → (number j ≡ 0 → T (finite (value j)))
    → totals_of a p' m' ≡ taken (eqb (number j) 0) j (value j) r p m → Sums (j + 1) (sum_of number value (j + 1)) p' m'
sum_more number value j p m p' m' r a s h f g q = subst (λ (k : ℕ). Sums (j + 1) (sum_of number value k) p' m') (sym (add-one j)) (go (eqb (number j) 0) refl q)
  where
    few : (v k c : ℕ) → v ≤ k * c → v ≤ (k + 1) * c
    few v k c u = omega arith

    go : (b : Bool) → eqb (number j) 0 ≡ b → totals_of a p' m' ≡ taken b j (value j) r p m → Sums (j + 1) (cond b (added (sum_of number value j) (whole (value j))) (sum_of number value j)) p' m'
    go true t e =
        let k = kept_of p m (value j) one in
        one_float j (sum_of number value j) p m s (value j) k.answer p' m' h (f, g (eqb-true _ _ t)) (rw (ap (λ (x : Totals). x.plus) e, ap (λ (x : Totals). x.minus) e))
    go false t e =
        rw (ap (λ (x : Totals). x.plus) e, ap (λ (x : Totals). x.minus) e)
        (record { plus_row = s.plus_row; minus_row = s.minus_row; plus_few = few _ j cap s.plus_few; minus_few = few _ j cap s.minus_few })

-- and the report of them
pub report_more : (number : ℕ → ℕ) (value : ℕ → Float) (j : ℕ) (p m p' m' : List ℕ) (r a : Report) → r ≡ report_over number value j
    → totals_of a p' m' ≡ taken (eqb (number j) 0) j (value j) r p m → a ≡ report_over number value (j + 1)
report_more number value j p m p' m' r a e q = rw add-one (go (eqb (number j) 0) q)
  where
    go : (b : Bool) → totals_of a p' m' ≡ taken b j (value j) r p m → a ≡ cond b (with_job j (value j) (report_over number value j)) (report_over number value j)
    go true t = rw (← e) (ap (λ (x : Totals). x.report) t)
    go false t = rw (← e) (ap (λ (x : Totals). x.report) t)
