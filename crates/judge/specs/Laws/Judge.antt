-- What the judge refuses, and what its answers say of the rows, over whole numbers. Clients cite Within, FirstBeyond, no_refusal, no_refusal_only.
use Rattle.std.specs.Prelude.{◌≡◌, Bool, true, false, ◌||◌, List, ℕ, ◌+◌, ◌*◌, ◌≤◌, ◌<◌, eqb, Float, length, take, Result, Ok, Err, ⊤}
use Rattle.std.proofs.Math.Path.{refl}
use Rattle.std.proofs.Math.Bool.{cond, and-eq-true_iff as both}
use mathlib.Mathlib.Data.Bool.Basic.{or-eq-false-eq-eq-false-and-eq-false as neither}
use native.Mathlib.Omega.{arith}
use Rattle.std.proofs.Math.Dec.{ltb}
use borrow.Author.Tests.{eqb-false, ltb-false, ne_eqb, le-ltb}
use Rattle.exact.specs.Exact.{Exact, size}
use Rattle.numbers.specs.declared.refusal.Refusal.{Refusal}
use Rattle.numbers.specs.declared.refusal.Refusal.TheVariants.{Order, Room, Tolerance}
use Rattle.num.specs.Lists.{«at», every}
use Rattle.judge.specs.Judge.{residual, allowed, judge_refusal, Given}

-- ---- the first of k rows that does not hold, for any test
module _ (p : ℕ → Bool) where
  -- r is the first from i on, of k, that does not pass
  pub record FirstNot (k i r : ℕ) : Type 0 where
    pub from : i ≤ r
    pub below : r < i + k
    pub fails : p r ≡ false
    pub before : (j : ℕ) → i ≤ j → j < r → p j ≡ true

-- ---- a row, over whole numbers of units of 2 ^ -2148

-- the number e is in size at most t
pub record AtMost (e : Exact) (t : Float) : Type 0 where
  pub above : e.plus ≤ e.minus + size t
  pub below : e.minus ≤ e.plus + size t

-- ---- the whole judge

-- row i's coefficients times the vector less its right side are in size at most its tolerance
abbrev pub Within : ℕ → List Float → List Float → List Float → ℕ → Type 0
Within n m x t i = AtMost (residual n m x i) («at» t i)

-- row r does not, and every row before it does
pub record FirstBeyond (n : ℕ) (m x t : List Float) (r : ℕ) : Type 0 where
  pub is_row : r < n
  pub beyond : Within n m x t r → ⊥
  pub before : (j : ℕ) → j < r → Within n m x t j

-- a refusal that is not given
not_given : (b : Bool) (k : Refusal) (r : Result ⊤ Refusal) → cond b (Err k) r ≡ Ok tt → (b ≡ false) × (r ≡ Ok tt)
not_given true k r e = absurd (cc)
not_given false k r e = (refl, e)

not_else : (b : Bool) (k : Refusal) → ◌≡◌ {A = Result ⊤ Refusal} (cond b (Ok tt) (Err k)) (Ok tt) → b ≡ true
not_else true k e = refl
not_else false k e = absurd (cc)

module _ (n : ℕ) (m x t : List Float) where
  -- nothing else is refused
  pub no_refusal : Given n m x t → judge_refusal n m x t ≡ Ok tt
  unfolding judge_refusal
  no_refusal g =
      let r = g.rows in
      rw (ne_eqb n 0 (not_zero n g.some), le-ltb 48 n r.most, le-ltb (length m) (n * (n + 1)) r.system, le-ltb (length x) n r.vector, le-ltb (length t) n g.tolerances, r.finite_system, r.finite_vector, g.no_less)
    where
      not_zero : (a : ℕ) → 0 < a → a ≡ 0 → ⊥
      not_zero a h e = omega arith

  pub no_refusal_only : judge_refusal n m x t ≡ Ok tt → Given n m x t
  unfolding judge_refusal
  no_refusal_only e =
      let p = not_given (eqb n 0 || ltb 48 n) Order _ e in
      let q = not_given (ltb (length m) (n * (n + 1)) || (ltb (length x) n || ltb (length t) n)) Room _ p.1 in
      let r = not_else _ Tolerance q.1 in
      let u = (neither (eqb n 0) (ltb 48 n)).0 p.0 in
      let v = (neither (ltb (length m) (n * (n + 1))) _).0 q.0 in
      let w = (neither (ltb (length x) n) (ltb (length t) n)).0 v.1 in
      let y = (both (every (allowed false) (take (n * (n + 1)) m)) _).0 r in
      let z = (both (every (allowed false) (take n x)) (every (allowed true) (take n t))).0 y.1 in
      record {
        some = above_zero n (eqb-false n 0 u.0);
        rows = record { most = ltb-false 48 n u.1; system = ltb-false _ _ v.0; vector = ltb-false _ _ w.0; finite_system = y.0; finite_vector = z.0 };
        tolerances = ltb-false _ _ w.1;
        no_less = z.1;
      }
    where
      above_zero : (a : ℕ) → (a ≡ 0 → ⊥) → 0 < a
      above_zero a h = omega arith
