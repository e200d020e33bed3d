-- What the tests on lent lists tell, and that they pass where the lists hold the jobs: then the counts and the report are those over the jobs. Clients cite Room, room, finites, ready_summable, counts_of, kinds_made, counts_made and totals_made.
-- Assumes nothing.
use Rattle.std.specs.Prelude.{ℕ, zero, suc, ◌*◌, ◌/◌, ◌≤◌, ◌<◌, ◌≡◌, refl, Bool, true, false, not, ◌||◌, List, ◌++◌, T, eqb, ltb, leb, length, drop, Float}
use Rattle.std.proofs.Common.{sym, ap, ◌∙◌, subst, true≢false, arith, le-div_iff_mul-le}
use Rattle.std.proofs.Math.Bool.{and-eq-true_iff as both}
use borrow.Author.Tests.{eqb-true, eqb-false, eq-eqb, ltb-true, lt-ltb, leb-true, le-leb}
use Rattle.std.specs.Float.Ieee.Scale.{finite}
use Rattle.numbers.specs.Limits.{most_jobs, job_numbers, sum_limbs}
use Rattle.numbers.specs.Verdicts.{settled}
use Rattle.loops.specs.Each.{each}
use Rattle.tally.specs.Tally.{number_in, value_in, how_many, totals_over, Summable, counts_after, counts_to, holds_jobs, all_finite, ready, totals_after}

-- ---- the lengths

pub record Room (jobs n unknown numbers vectors : ℕ) : Type 0 where
  pub few : jobs ≤ most_jobs
  pub inside : unknown < n
  pub «number-room» : jobs ≤ numbers
  pub «vector-room» : jobs * n ≤ vectors

module _ (jobs n unknown numbers vectors : ℕ) where
  pub room : holds_jobs jobs n unknown numbers vectors ≡ true → Room jobs n unknown numbers vectors
  unfolding holds_jobs
  room e =
      let a = (both (leb jobs most_jobs) _).0 e in
      let b = (both (ltb unknown n) _).0 a.1 in
      let d = (both (leb jobs numbers) _).0 b.1 in
      let i = ltb-true unknown n b.0 in
      record { few = leb-true _ _ a.0; inside = i; «number-room» = leb-true _ _ d.0; «vector-room» = (le-div_iff_mul-le {k = n} {x = jobs} {y = vectors} (omega arith)).0 (leb-true _ _ d.1) }

  held : Room jobs n unknown numbers vectors → holds_jobs jobs n unknown numbers vectors ≡ true
  unfolding holds_jobs
  held r =
      let i = r.inside in
      rw (le-leb jobs most_jobs r.few, lt-ltb unknown n i, le-leb jobs numbers r.«number-room», le-leb jobs (vectors / n) ((le-div_iff_mul-le {k = n} {x = jobs} {y = vectors} (omega arith)).1 r.«vector-room»))

-- ---- the values

truth : (b : Bool) → b ≡ true → T b
truth true e = tt
truth false e = absurd (true≢false (sym e))

told_true : (b : Bool) → T b → b ≡ true
told_true true h = refl
told_true false h = absurd h

module _ (number : ℕ → ℕ) (value : ℕ → Float) where
  pub finites : (n : ℕ) → all_finite number value n ≡ true → (j : ℕ) → j < n → number j ≡ settled → T (finite (value j))
  finites zero e j h q = absurd (omega arith)
  finites (suc n) e j h q = by (finites n k.0 j) (eqb j n) refl
    where
      k : (all_finite number value n ≡ true) × ((not (eqb (number n) settled) || finite (value n)) ≡ true)
      k = (both (all_finite number value n) _).0 e

      last : number n ≡ settled → T (finite (value n))
      last q = truth (finite (value n)) (rw (eq-eqb (number n) settled q) at k.1)

      by : (j < n → number j ≡ settled → T (finite (value j))) → (b : Bool) → eqb j n ≡ b → T (finite (value j))
      by earlier true t = let s = eqb-true j n t in subst (λ (i : ℕ). T (finite (value i))) (sym s) (last (sym (ap number s) ∙ q))
      by earlier false t = earlier (omega (arith, eqb-false j n t)) q

  all_finite_lem : (n : ℕ) → ((j : ℕ) → j < n → number j ≡ settled → T (finite (value j))) → all_finite number value n ≡ true
  all_finite_lem zero h = refl
  all_finite_lem (suc n) h = (both (all_finite number value n) _).1 (all_finite_lem n (λ j l. h j (omega arith)), by (eqb (number n) settled) refl)
    where
      by : (b : Bool) → eqb (number n) settled ≡ b → (not b || finite (value n)) ≡ true
      by true t = told_true (finite (value n)) (h n (omega arith) (eqb-true (number n) settled t))
      by false t = refl

-- ---- the counts and the report

module _ (jobs n unknown : ℕ) (numbers : List ℕ) (vectors : List Float) where
  pub ready_summable : (plus minus : ℕ) → ready jobs n unknown numbers vectors plus minus ≡ true → Summable jobs n unknown numbers vectors × (plus ≡ sum_limbs) × (minus ≡ sum_limbs)
  unfolding ready
  ready_summable plus minus e =
      let a = (both (holds_jobs jobs n unknown (length numbers) (length vectors)) _).0 e in
      let b = (both (eqb plus sum_limbs) _).0 a.1 in
      let d = (both (eqb minus sum_limbs) _).0 b.1 in
      let r = room jobs n unknown (length numbers) (length vectors) a.0 in (
        record { few = r.few; inside = r.inside; «number-room» = r.«number-room»; «vector-room» = r.«vector-room»; finites = finites (number_in numbers) (value_in n unknown vectors) jobs d.1 },
        eqb-true plus sum_limbs b.0,
        eqb-true minus sum_limbs d.0,
      )

  pub totals_made : (p m : List ℕ) → Summable jobs n unknown numbers vectors → length p ≡ sum_limbs → length m ≡ sum_limbs
      → totals_after jobs n unknown numbers vectors p m ≡ totals_over (number_in numbers) (value_in n unknown vectors) jobs
  unfolding totals_after ready
  totals_made p m s hp hm =
      let h = held jobs n unknown (length numbers) (length vectors) (record { few = s.few; inside = s.inside; «number-room» = s.«number-room»; «vector-room» = s.«vector-room» }) in
      rw (h, eq-eqb (length p) sum_limbs hp, eq-eqb (length m) sum_limbs hm, all_finite_lem (number_in numbers) (value_in n unknown vectors) jobs s.finites)

-- the 27 numbers are one of these
pub counts_of : (numbers : List ℕ) (jobs : ℕ) (counts : List ℕ) → counts_to job_numbers numbers jobs counts ≡ counts_after numbers jobs counts
unfolding counts_to counts_after
counts_of numbers jobs counts = refl

pub kinds_made : (kinds : ℕ) (numbers : List ℕ) (jobs : ℕ) (counts : List ℕ) → jobs ≤ length numbers → kinds ≤ length counts
    → counts_to kinds numbers jobs counts ≡ each (how_many (number_in numbers) jobs) kinds ++ drop kinds counts
unfolding counts_to
kinds_made kinds numbers jobs counts h g = rw (le-leb jobs (length numbers) h, le-leb kinds (length counts) g)

pub counts_made : (numbers : List ℕ) (jobs : ℕ) (counts : List ℕ) → jobs ≤ length numbers → job_numbers ≤ length counts
    → counts_after numbers jobs counts ≡ each (how_many (number_in numbers) jobs) job_numbers ++ drop job_numbers counts
counts_made numbers jobs counts h g = sym (counts_of numbers jobs counts) ∙ kinds_made job_numbers numbers jobs counts h g
