-- Where a row ends, a row's sum with one product more, the rows with one row less to look at, and the last refusal. Assumes nothing.
use mathlib.Core.Path.{◌≡◌, refl, ap, ◌∙◌}
use mathlib.Core.Bool.{Bool, true, false, cond, ◌&&◌}
use mathlib.Core.List.{List}
use Prim.Native.Nat.{ℕ, suc, ◌+◌, ◌-◌, ◌*◌, ◌≤◌, ◌<◌}
use native.Mathlib.Nat.{mul-le-mul_right, mul-le-mul, suc-mul}
use native.Mathlib.Numerals.{add-one}
use native.Mathlib.Omega.{arith}
use borrow.Author.Tests.{ne_eqb, le-ltb}
use lib.ListN.{length, take}
use lib.Ieee.{Float}
use Rattle.std.specs.Prelude.{Ok, Err}
use Rattle.numbers.specs.declared.refusal.Refusal.TheVariants.{Tolerance}
use Rattle.exact.specs.Exact.{none, times, added}
use Rattle.num.specs.Lists.{«at», every}
use Rattle.judge.specs.Judge.{total, named, allowed, judge_refusal}
use Rattle.judge.specs.declared.Judged.TheVariants.{Accepted, Rejected}

-- 48 rows of 49 at most
pub size : (n : ℕ) → n ≤ 48 → n * (n + 1) ≤ 2352
size n h = mul-le-mul {n₂ = 48} {m₂ = 49} h (omega arith)

-- row i, with its right side, lies within the system
pub record Lies (i n : ℕ) : Type 0 where
  pub within : i * (n + 1) + (n + 1) ≤ n * (n + 1)
  pub few : n * (n + 1) ≤ 2352

pub lies : (i n : ℕ) → i < n → n ≤ 48 → Lies i n
lies i n h g = record { within = row i n (n + 1) h; few = size n g }
  where
    row : (j k w : ℕ) → j < k → j * w + w ≤ k * w
    row j k w p = omega (arith, mul-le-mul_right w p, suc-mul j w)

-- one product more
pub more : (m x : List Float) (from j : ℕ) → added (total m x from j) (times («at» m (from + j)) («at» x j)) ≡ total m x from (j + 1)
unfolding total
more m x from j = rw add-one

module _ (p : ℕ → Bool) (n i : ℕ) (h : i < n) where
  one : (b : Bool) → p i ≡ b → named p (n - i) i ≡ cond b (named p (n - (i + 1)) (i + 1)) (Rejected i)
  unfolding named
  one b e = let s : n - i ≡ suc (n - (i + 1)) = omega arith in ap (λ (k : ℕ). named p k i) s ∙ ap (λ (c : Bool). cond c (named p (n - (i + 1)) (i + 1)) (Rejected i)) e

  pub holding : p i ≡ true → named p (n - i) i ≡ named p (n - (i + 1)) (i + 1)
  holding e = one true e

  pub failing : p i ≡ false → named p (n - i) i ≡ Rejected i
  failing e = one false e

pub at_end_lem : (p : ℕ → Bool) (n i : ℕ) → n ≤ i → named p (n - i) i ≡ Accepted
unfolding named
at_end_lem p n i h = let e : n - i ≡ 0 = omega arith in ap (λ (k : ℕ). named p k i) e

pub at_start : (p : ℕ → Bool) (n : ℕ) → named p (n - 0) 0 ≡ named p n 0
at_start p n = let e : n - 0 ≡ n = omega arith in ap (λ (k : ℕ). named p k 0) e

-- no product yet
pub nothing : (m x : List Float) (from : ℕ) → none ≡ total m x from 0
unfolding total
nothing m x from = refl

-- where 1 and 5 do not apply, the numbers decide
pub numbers_decide : (n : ℕ) (m x t : List Float) → (n ≡ 0 → ⊥) → n ≤ 48 → n * (n + 1) ≤ length m → n ≤ length x → n ≤ length t
    → judge_refusal n m x t ≡ cond (every (allowed false) (take (n * (n + 1)) m) && (every (allowed false) (take n x) && every (allowed true) (take n t))) (Ok tt) (Err Tolerance)
unfolding judge_refusal
numbers_decide n m x t a b c d e = rw (ne_eqb n 0 a, le-ltb 48 n b, le-ltb (length m) (n * (n + 1)) c, le-ltb (length x) n d, le-ltb (length t) n e)
