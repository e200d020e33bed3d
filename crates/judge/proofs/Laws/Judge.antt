-- Exactly when the judge accepts, names a row, or refuses, over whole numbers. Clients cite refused_some, refusal_is, accepts, accepts_only, rejects, rejects_only, accepted_numbers.
use Rattle.std.specs.Prelude.{◌≡◌, Bool, true, false, List, ℕ, zero, suc, ◌+◌, ◌≤◌, ◌<◌, T, eqb, leb, Float, Result, Ok, Err, ⊤}
use Rattle.std.specs.Result.{result_and}
use Rattle.std.proofs.Math.Path.{refl, ap}
use Rattle.std.proofs.Common.{sym, ◌∙◌, subst}
use Rattle.std.proofs.Math.Bool.{cond, and-eq-true_iff as both}
use native.Mathlib.Omega.{arith}
use borrow.Author.Tests.{eqb-true, eqb-false, leb-true, le-leb}
use Rattle.numbers.specs.Refusals.{number_of, refused_by}
use Rattle.numbers.specs.declared.refusal.Refusal.{Refusal}
use Rattle.numbers.specs.declared.refusal.Refusal.TheVariants.{Order, Sheet, Points, Counts, Room, Kind, Unused, Node, Source, Pattern, Tolerance, Argument, Jobs}
use Rattle.exact.specs.Exact.{Exact, size, within}
use Rattle.judge.specs.Judge.{holds, named, judge_refusal, judge_of, numbers_of, Given}
use Rattle.judge.specs.Laws.Judge.{FirstNot, AtMost, Within, FirstBeyond, no_refusal, no_refusal_only}
use Rattle.judge.specs.declared.Judged.{Judged}
use Rattle.judge.specs.declared.Judged.TheVariants.{Accepted, Rejected}

-- ---- the first of k rows that does not hold, for any test
module _ (p : ℕ → Bool) where
  one : (k i : ℕ) (b : Bool) → p i ≡ b → named p (suc k) i ≡ cond b (named p k (i + 1)) (Rejected i)
  unfolding named
  one k i b e = ap (λ (c : Bool). cond c (named p k (i + 1)) (Rejected i)) e

  none : (i : ℕ) → named p zero i ≡ Accepted
  unfolding named
  none i = refl

  later : (i j : ℕ) → i ≤ j → (i ≡ j → ⊥) → i + 1 ≤ j
  later i j h d = omega arith

  all_pass : (k i : ℕ) → ((j : ℕ) → i ≤ j → j < i + k → p j ≡ true) → named p k i ≡ Accepted
  all_pass zero i w = none i
  all_pass (suc k) i w = one k i true (w i (omega arith) (omega arith)) ∙ all_pass k (i + 1) (λ j a b. w j (omega arith) (omega arith))

  -- a row is the first, or a later one
  pick : {A : Type 0} (i j : ℕ) → i ≤ j → (i ≡ j → A) → (i + 1 ≤ j → A) → A
  pick {A} i j h f g = go (eqb i j) refl
    where
      go : (b : Bool) → eqb i j ≡ b → A
      go true e = f (eqb-true i j e)
      go false e = g (later i j h (eqb-false i j e))

  passed_step : (k i j : ℕ) → named p (suc k) i ≡ Accepted → i ≤ j → (named p k (i + 1) ≡ Accepted → i + 1 ≤ j → p j ≡ true) → p j ≡ true
  passed_step k i j e h rest = go (p i) refl
    where
      go : (b : Bool) → p i ≡ b → p j ≡ true
      go true f = pick i j h (λ s. subst (λ (a : ℕ). p a ≡ true) s f) (λ l. rest (sym (one k i true f) ∙ e) l)
      go false f = let z : Rejected i ≡ Accepted = sym (one k i false f) ∙ e in let y : ◌≡◌ {A = ℕ} 0 1 = cc in absurd (omega arith)

  passed : (k i : ℕ) → named p k i ≡ Accepted → (j : ℕ) → i ≤ j → j < i + k → p j ≡ true
  passed zero i e j a b = absurd (empty i j a b)
    where
      empty : (u v : ℕ) → u ≤ v → v < u + 0 → ⊥
      empty u v g h = omega arith
  passed (suc k) i e j a b = passed_step k i j e a (λ f g. passed k (i + 1) f j g (omega arith))

  name_step : (k i r : ℕ) → FirstNot p (suc k) i r → (FirstNot p k (i + 1) r → named p k (i + 1) ≡ Rejected r) → named p (suc k) i ≡ Rejected r
  name_step k i r f rest =
      pick i r f.from (λ s. one k i false (subst (λ (a : ℕ). p a ≡ false) (sym s) f.fails) ∙ ap Rejected s)
      (λ l. one k i true (f.before i (omega arith) (omega arith)) ∙ rest (record { from = l; below = omega arith; fails = f.fails; before = λ j a b. f.before j (omega arith) b }))

  name : (k i r : ℕ) → FirstNot p k i r → named p k i ≡ Rejected r
  name zero i r f = absurd (empty i r f.from f.below)
    where
      empty : (u v : ℕ) → u ≤ v → v < u + 0 → ⊥
      empty u v g h = omega arith
  name (suc k) i r f = name_step k i r f (name k (i + 1) r)

  found_step : (k i r : ℕ) → named p (suc k) i ≡ Rejected r → (named p k (i + 1) ≡ Rejected r → FirstNot p k (i + 1) r) → FirstNot p (suc k) i r
  found_step k i r e rest = go (p i) refl
    where
      go : (b : Bool) → p i ≡ b → FirstNot p (suc k) i r
      go true f =
          let d = rest (sym (one k i true f) ∙ e) in
          record { from = omega (arith, d.from); below = omega (arith, d.below); fails = d.fails; before = λ j a b. pick i j a (λ s. subst (λ (u : ℕ). p u ≡ true) s f) (λ l. d.before j l b) }
      go false f =
          let z : Rejected i ≡ Rejected r = sym (one k i false f) ∙ e in
          let s : i ≡ r = cc in
          record { from = omega arith; below = omega arith; fails = subst (λ (u : ℕ). p u ≡ false) s f; before = λ j a b. absurd (omega arith) }

  found : (k i r : ℕ) → named p k i ≡ Rejected r → FirstNot p k i r
  found zero i r e = absurd (never (sym (none i) ∙ e))
    where
      never : Accepted ≡ Rejected r → ⊥
      never h = let y : ◌≡◌ {A = ℕ} 0 1 = cc in omega arith
  found (suc k) i r e = found_step k i r e (found k (i + 1) r)

at_most : (e : Exact) (t : Float) → within e t ≡ true → AtMost e t
at_most e t h = let b = (both (leb e.plus (e.minus + size t)) (leb e.minus (e.plus + size t))).0 h in record { above = leb-true _ _ b.0; below = leb-true _ _ b.1 }

is_within : (e : Exact) (t : Float) → AtMost e t → within e t ≡ true
is_within e t h = rw (le-leb e.plus (e.minus + size t) h.above, le-leb e.minus (e.plus + size t) h.below)

-- a test that is not passed
fails_not : (b : Bool) → b ≡ false → b ≡ true → ⊥
fails_not b e f = subst T (sym f ∙ e) tt

not_passes : (b : Bool) → (b ≡ true → ⊥) → b ≡ false
not_passes true h = absurd (h refl)
not_passes false h = refl

-- the answer's refusal is the refusal: a row is none
answered : (n : ℕ) (c : Result ⊤ Refusal) (j : Judged) → (numbers_of n (result_and c (Ok j))).refusal ≡ refused_by c
answered n (Ok u) Accepted = refl
answered n (Ok u) (Rejected i) = refl
answered n (Err k) j = refl

-- rows are looked at only where nothing stands against it
nothing_stands : (c : Result ⊤ Refusal) (j a : Judged) → result_and c (Ok j) ≡ Ok a → c ≡ Ok tt
nothing_stands (Ok u) j a e = refl
nothing_stands (Err k) j a e = absurd (cc)

the_same : (j a : Judged) → ◌≡◌ {A = Result Judged Refusal} (Ok j) (Ok a) → j ≡ a
the_same j a e = cc

-- a refusal's number is not 0
pub refused_some : (k : Refusal) → 0 < number_of k
refused_some Order = omega arith
refused_some Sheet = omega arith
refused_some Points = omega arith
refused_some Counts = omega arith
refused_some Room = omega arith
refused_some Kind = omega arith
refused_some Unused = omega arith
refused_some Node = omega arith
refused_some Source = omega arith
refused_some Pattern = omega arith
refused_some Tolerance = omega arith
refused_some Argument = omega arith
refused_some Jobs = omega arith

module _ (n : ℕ) (m x t : List Float) where
  pub refusal_is : (numbers_of n (judge_of n m x t)).refusal ≡ refused_by (judge_refusal n m x t)
  unfolding judge_of
  refusal_is = answered n (judge_refusal n m x t) (named (holds n m x t) n 0)

  -- where nothing is refused, the answer is that of the rows
  answer : Given n m x t → judge_of n m x t ≡ Ok (named (holds n m x t) n 0)
  unfolding judge_of
  answer g = rw (no_refusal n m x t g)

  given : (a : Judged) → judge_of n m x t ≡ Ok a → Given n m x t
  unfolding judge_of
  given a e = no_refusal_only n m x t (nothing_stands _ _ a e)

  rows : (a : Judged) → judge_of n m x t ≡ Ok a → named (holds n m x t) n 0 ≡ a
  rows a e = the_same _ a (sym (answer (given a e)) ∙ e)

  -- accepted exactly when nothing is refused and every row stays within its tolerance
  pub accepts : Given n m x t → ((i : ℕ) → i < n → Within n m x t i) → judge_of n m x t ≡ Ok Accepted
  accepts g w = answer g ∙ ap Ok (all_pass _ n 0 (λ j a b. is_within _ _ (w j (omega arith))))

  pub accepts_only : judge_of n m x t ≡ Ok Accepted → Given n m x t × ((i : ℕ) → i < n → Within n m x t i)
  accepts_only e = (given Accepted e, λ i h. at_most _ _ (passed _ n 0 (rows Accepted e) i (omega arith) (omega arith)))

  -- row r is named exactly when nothing is refused and r is the first row that does not
  pub rejects : (r : ℕ) → Given n m x t → FirstBeyond n m x t r → judge_of n m x t ≡ Ok (Rejected r)
  rejects r g f =
      answer g ∙ ap Ok (name _ n 0 r (record {
        from = omega arith;
        below = omega (arith, f.is_row);
        fails = not_passes _ (λ h. f.beyond (at_most _ _ h));
        before = λ j a b. is_within _ _ (f.before j b);
      }))

  pub rejects_only : (r : ℕ) → judge_of n m x t ≡ Ok (Rejected r) → Given n m x t × FirstBeyond n m x t r
  rejects_only r e =
      let f = found _ n 0 r (rows (Rejected r) e) in
      (given (Rejected r) e, record { is_row = omega (arith, f.below); beyond = λ h. fails_not _ f.fails (is_within _ _ h); before = λ j h. at_most _ _ (f.before j (omega arith) h) })

  -- no row that is named is n, so that the two numbers tell accepted from rejected
  pub accepted_numbers : (numbers_of n (judge_of n m x t)).refusal ≡ 0 → (numbers_of n (judge_of n m x t)).row ≡ n → judge_of n m x t ≡ Ok Accepted
  accepted_numbers e l = go (judge_of n m x t) refl e l
    where
      go : (a : Result Judged Refusal) → judge_of n m x t ≡ a → (numbers_of n a).refusal ≡ 0 → (numbers_of n a).row ≡ n → judge_of n m x t ≡ Ok Accepted
      go (Ok Accepted) q u h = q
      go (Ok (Rejected r)) q u h = absurd (omega (arith, (rejects_only r q).1.is_row))
      go (Err k) q u h = absurd (omega (arith, refused_some k))
