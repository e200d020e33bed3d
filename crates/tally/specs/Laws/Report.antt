-- What the report tells, for any numbers and values: the counts add up, the settled are counted once more by the report, and the smallest and the largest are settled jobs' own, with none below or above and no earlier one as low or as high.
-- Clients cite summed_same, adds_up, settled_many, Best, above, Finites, Extremes and extremes. Assumes nothing.
use Prim.Native.Nat.{ℕ, zero, suc, ◌+◌, ◌<◌, ◌≤◌}
use Rattle.std.specs.Prelude.{◌≡◌, ◌⊎◌, Bool, cond, T, Float}
use Rattle.std.proofs.Math.Path.{refl}
use Rattle.std.proofs.Common.{sym, ap, ◌∙◌, inl, inr, ⊎_elim, add-one}
use Rattle.std.proofs.Math.Bool.{true, false}
use native.Mathlib.Omega.{arith}
use borrow.Author.Tests.{eqb-true, eqb-false, eq-eqb, ne_eqb}
use Rattle.std.proofs.Math.Dec.{eqb}
use Rattle.std.specs.Float.Ieee as Ieee
use Rattle.std.specs.Float.Ieee.Scale.{finite}
use Rattle.num.specs.Laws.Less.{no, lt_self, lt_trans, lt_either}
use Rattle.loops.specs.Laws.Loop.{le_or_lt}
use Rattle.tally.specs.declared.Report.{Report}
use Rattle.tally.specs.declared.Peak.{Peak}
use Rattle.tally.specs.Tally.{how_many, peak_of, lower, upper, reported, with_job, report_over, summed}

-- ---- the counts

pub summed_same : (f g : ℕ → ℕ) (n : ℕ) → ((k : ℕ) → k < n → f k ≡ g k) → summed f n ≡ summed g n
summed_same f g zero h = refl
summed_same f g (suc n) h = rw (summed_same f g n (λ k l. h k (omega arith)), h n (omega arith))

module _ (h : ℕ → ℕ) (m : ℕ) where
  -- h with one more at m
  abbrev bumped : ℕ → ℕ
  bumped k = cond (eqb m k) (h k + 1) (h k)

  past : (n : ℕ) → n ≤ m → summed bumped n ≡ summed h n
  past zero l = refl
  past (suc n) l = rw (past n (omega arith), ne_eqb m n (λ e. omega arith))

  within : (n : ℕ) → m < n → summed bumped n ≡ summed h n + 1
  within zero l = absurd (omega arith)
  within (suc n) l =
      ⊎_elim
      (λ (g : n ≤ m). let e : m ≡ n = omega arith in rw (past n g, eq-eqb m n e) (omega arith))
      (λ (g : m < n). rw (within n g, ne_eqb m n (λ e. omega arith)) (omega arith))
      (le_or_lt n m)

-- where every number is below n, the counts add up to the jobs
pub adds_up : (number : ℕ → ℕ) (n jobs : ℕ) → ((j : ℕ) → j < jobs → number j < n) → summed (how_many number jobs) n ≡ jobs
unfolding how_many
adds_up number n zero h = none n
  where
    none : (k : ℕ) → summed (λ (i : ℕ). 0) k ≡ 0
    none zero = refl
    none (suc k) = rw (none k)
adds_up number n (suc j) h =
    within (how_many number j) (number j) n (h j (omega arith)) ∙ (rw (adds_up number n j (λ i l. h i (omega arith))) (add-one j))

-- ---- the two orders

-- an order that holds of no number and itself, from step to step, and of a finite number with one of any two that it parts
record Order (less : Float → Float → Bool) : Type 0 where
  itself : (x : Float) → less x x ≡ false
  on : (x y z : Float) → less x y ≡ true → less y z ≡ true → less x z ≡ true
  parts : (x y v : Float) → T (finite v) → less x y ≡ true → (less x v ≡ true) ⊎ (less v y ≡ true)

abbrev pub above : Float → Float → Bool
above x y = Ieee.lt y x

downwards : Order Ieee.lt
downwards = record { itself = lt_self; on = lt_trans; parts = lt_either }

upwards : Order above
upwards = record { itself = lt_self; on = λ x y z p q. lt_trans z y x q p; parts = λ x y v f p. ⊎_elim inr inl (lt_either y x v f p) }

module _ (number : ℕ → ℕ) (value : ℕ → Float) where
  -- the report counts the settled as the counts do
  pub settled_many : (j : ℕ) → (report_over number value j).settled ≡ how_many number j 0
  unfolding with_job how_many
  settled_many zero = refl
  settled_many (suc j) = go (eqb (number j) 0) (report_over number value j) (settled_many j)
    where
      first : (b : Bool) (r : Report) → eqb r.settled 0 ≡ b → r.settled ≡ how_many number j 0
          → (cond b (reported 1 (peak_of (value j) j) (peak_of (value j) j)) (reported (r.settled + 1) (lower j (value j) (peak_of r.smallest r.smallest_at)) (upper j (value j) (peak_of r.largest r.largest_at)))).settled
          ≡ how_many number j 0 + 1
      first true r t e = let z : r.settled ≡ 0 = eqb-true _ _ t in omega arith
      first false r t e = rw e

      go : (b : Bool) (r : Report) → r.settled ≡ how_many number j 0 → (cond b (with_job j (value j) r) r).settled ≡ cond b (how_many number j 0 + 1) (how_many number j 0)
      go true r e = first (eqb r.settled 0) r refl e
      go false r e = e

  -- ---- smallest and largest, for either order

  -- p is a settled job's own; no settled job of the first n comes before it, and it comes before every earlier one
  pub record Best (less : Float → Float → Bool) (n : ℕ) (p : Peak) : Type 0 where
    pub place : p.at < n
    pub settled : number p.at ≡ 0
    pub own : p.value ≡ value p.at
    pub none : (i : ℕ) → i < n → number i ≡ 0 → less (value i) p.value ≡ false
    pub earliest : (i : ℕ) → i < p.at → number i ≡ 0 → less p.value (value i) ≡ true

  -- the settled of the first n are finite
  abbrev pub Finites : ℕ → Type 0
  Finites n = (i : ℕ) → i < n → number i ≡ 0 → T (finite (value i))

  module _ (less : Float → Float → Bool) (o : Order less) where
    skip : (j : ℕ) (p : Peak) → (number j ≡ 0 → ⊥) → Best less j p → Best less (suc j) p
    skip j p h b =
        record {
          place = omega (arith, b.place);
          settled = b.settled;
          own = b.own;
          none = λ i l e. ⊎_elim (λ (g : j ≤ i). let u : i ≡ j = omega arith in absurd (h (sym (ap number u) ∙ e))) (λ (g : i < j). b.none i g e) (le_or_lt j i);
          earliest = b.earliest;
        }

    -- job j takes the place from what was there before
    takes : (j : ℕ) → number j ≡ 0 → ((i : ℕ) → i < j → number i ≡ 0 → (less (value i) (value j) ≡ false) × (less (value j) (value i) ≡ true)) → Best less (suc j) (peak_of (value j) j)
    takes j e h =
        record {
          place = omega arith;
          settled = e;
          own = refl;
          none = λ i l s. ⊎_elim (λ (g : j ≤ i). let u : i ≡ j = omega arith in rw u (o.itself (value j))) (λ (g : i < j). (h i g s).0) (le_or_lt j i);
          earliest = λ i l s. (h i l s).1;
        }

    more : (j : ℕ) (p : Peak) → Finites j → number j ≡ 0 → Best less j p → Best less (suc j) (cond (less (value j) p.value) (peak_of (value j) j) p)
    more j p finites e b = go (less (value j) p.value) refl
      where
        not_less : (i : ℕ) → less (value j) p.value ≡ true → less (value i) p.value ≡ false → less (value i) (value j) ≡ false
        not_less i t f = by (less (value i) (value j)) refl
          where
            by : (c : Bool) → less (value i) (value j) ≡ c → c ≡ false
            by false q = refl
            by true q = sym (o.on (value i) (value j) p.value q t) ∙ f

        before : (i : ℕ) → i < j → number i ≡ 0 → less (value j) p.value ≡ true → less (value i) p.value ≡ false → less (value j) (value i) ≡ true
        before i l s t f = ⊎_elim (λ g. g) (λ g. no (sym f ∙ g)) (o.parts (value j) p.value (value i) (finites i l s) t)

        go : (c : Bool) → less (value j) p.value ≡ c → Best less (suc j) (cond c (peak_of (value j) j) p)
        go true t = takes j e (λ i l s. (not_less i t (b.none i l s), before i l s t (b.none i l s)))
        go false t =
            record {
              place = omega (arith, b.place);
              settled = b.settled;
              own = b.own;
              none = λ i l s. ⊎_elim (λ (g : j ≤ i). let u : i ≡ j = omega arith in rw u t) (λ (g : i < j). b.none i g s) (le_or_lt j i);
              earliest = b.earliest;
            }

  -- of the first n jobs: none settled, or the smallest and the largest are theirs
  pub record Extremes (n : ℕ) (r : Report) : Type 0 where
    pub none : r.settled ≡ 0 → (i : ℕ) → i < n → number i ≡ 0 → ⊥
    pub smallest : 0 < r.settled → Best Ieee.lt n (peak_of r.smallest r.smallest_at)
    pub largest : 0 < r.settled → Best above n (peak_of r.largest r.largest_at)

  pub extremes : (n : ℕ) → Finites n → Extremes n (report_over number value n)
  unfolding with_job
  extremes zero f = record { none = λ e i l. absurd (omega arith); smallest = λ h. absurd (omega arith); largest = λ h. absurd (omega arith) }
  extremes (suc j) f = go (eqb (number j) 0) refl (report_over number value j) (extremes j before)
    where
      before : Finites j
      before i l = f i (omega arith)

      first : (b : Bool) (r : Report) → eqb r.settled 0 ≡ b → number j ≡ 0 → Extremes j r
          → Extremes (suc j) (cond b (reported 1 (peak_of (value j) j) (peak_of (value j) j)) (reported (r.settled + 1) (lower j (value j) (peak_of r.smallest r.smallest_at)) (upper j (value j) (peak_of r.largest r.largest_at))))
      first true r t e x =
          record {
            none = λ z. absurd (omega arith);
            smallest = λ h. takes Ieee.lt downwards j e (λ i l s. absurd (x.none (eqb-true _ _ t) i l s));
            largest = λ h. takes above upwards j e (λ i l s. absurd (x.none (eqb-true _ _ t) i l s));
          }
      first false r t e x =
          let g : 0 < r.settled = omega (arith, eqb-false r.settled 0 t) in
          record {
            none = λ z. absurd (omega arith);
            smallest = λ h. more Ieee.lt downwards j (peak_of r.smallest r.smallest_at) before e (x.smallest g);
            largest = λ h. more above upwards j (peak_of r.largest r.largest_at) before e (x.largest g);
          }

      go : (b : Bool) → eqb (number j) 0 ≡ b → (r : Report) → Extremes j r → Extremes (suc j) (cond b (with_job j (value j) r) r)
      go true t r x = first (eqb r.settled 0) r refl (eqb-true _ _ t) x
      go false t r x =
          record {
            none = λ z i l s. ⊎_elim (λ (g : j ≤ i). let u : i ≡ j = omega arith in eqb-false _ _ t (sym (ap number u) ∙ s)) (λ (g : i < j). x.none z i g s) (le_or_lt j i);
            smallest = λ h. skip Ieee.lt downwards j (peak_of r.smallest r.smallest_at) (eqb-false _ _ t) (x.smallest h);
            largest = λ h. skip above upwards j (peak_of r.largest r.largest_at) (eqb-false _ _ t) (x.largest h);
          }
