-- Jobs whose numbers and values agree have the same counts and the same report. Clients cite counts_same, many_same and totals_same. Assumes nothing.
use Prim.Native.Nat.{ℕ, zero, suc, ◌<◌}
use Rattle.std.specs.Prelude.{◌≡◌, Float}
use Rattle.std.proofs.Math.Path.{refl}
use Rattle.std.proofs.Common.{arith}
use Rattle.loops.specs.Each.{each}
use Rattle.loops.specs.Laws.Loop.{turns_ext}
use Rattle.exact.specs.Exact.{none as noSum}
use Rattle.tally.specs.Tally.{how_many, nothing, report_step, report_over, sum_step, sum_of, totals_over}

each_same : {A : Type 0} (f g : ℕ → A) (n : ℕ) → ((i : ℕ) → f i ≡ g i) → each f n ≡ each g n
each_same f g zero h = refl
each_same f g (suc n) h = rw (each_same f g n h, h n)

module _ (f g : ℕ → ℕ) where
  pub many_same : (jobs k : ℕ) → ((j : ℕ) → j < jobs → f j ≡ g j) → how_many f jobs k ≡ how_many g jobs k
  unfolding how_many
  many_same zero k h = refl
  many_same (suc j) k h = rw (h j (omega arith), many_same j k (λ i l. h i (omega arith)))

  pub counts_same : (jobs n : ℕ) → ((j : ℕ) → j < jobs → f j ≡ g j) → each (how_many f jobs) n ≡ each (how_many g jobs) n
  counts_same jobs n h = each_same (how_many f jobs) (how_many g jobs) n (λ k. many_same jobs k h)

  pub totals_same : (v w : ℕ → Float) (jobs : ℕ) → ((j : ℕ) → j < jobs → f j ≡ g j) → ((j : ℕ) → j < jobs → v j ≡ w j) → totals_over f v jobs ≡ totals_over g w jobs
  totals_same v w jobs h k =
      let told : report_over f v jobs ≡ report_over g w jobs = turns_ext (report_step f v) (report_step g w) jobs nothing (λ i l x. rw (h i l, k i l)) in
      let sum : sum_of f v jobs ≡ sum_of g w jobs = turns_ext (sum_step f v) (sum_step g w) jobs noSum (λ i l x. rw (h i l, k i l)) in
      rw (told, sum)
