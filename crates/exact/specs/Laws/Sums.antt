-- The laws by which a caller follows a sum of many terms in two rows. Clients cite Factor, one_factor, row_length, no_terms, exchanged, not_cut, is_kept, one_more_lem, one_float, is_within.
use Rattle.std.specs.Prelude.{◌≡◌, ℕ, ◌+◌, ◌-◌, ◌*◌, ◌^◌, ◌<◌, ◌≤◌, Bool, true, false, cond, T, List, length, Float, Result, Ok, IsOk, ⊤}
use Rattle.std.proofs.Common.{sym, ◌∙◌, lt_of_le_of_lt, le_trans, mul-le-mul, mul-le-mul_right, lit<, lit≤}
use Rattle.std.proofs.Math.Path.{ap, subst}
use native.Mathlib.Omega.{arith}
use borrow.Author.Tests.{eq-eqb, lt-ltb}
use denote.Floats.{is_true}
use Rattle.std.specs.Int.Count.{count_trailing_zeros}
use Rattle.std.specs.Float.{binary64}
use Rattle.std.specs.Float.Ieee.{fits, unlike, of_bits, of_fields, odd}
use Rattle.std.specs.Float.Ieee.Scale.{finite}
use Rattle.numbers.specs.Limits.{sum_limbs}
use Rattle.exact.specs.Limbs.{value, limbs_of}
use Rattle.exact.specs.Laws.Limbs.{length_limbs, value_limbs}
use Rattle.num.specs.Literals.{one}
use Rattle.num.specs.Floats.{sign}
use Rattle.exact.specs.Exact.{Exact, units, none, times, whole, added, opposite, within}
use Rattle.exact.specs.Laws.Units.{units_few}
use Rattle.exact.specs.Rows.{cap}
use Rattle.exact.specs.Kept.{Rows, rows_of, check_of, kept_of, within_of}
use Rattle.exact.specs.declared.Unkept.{Unkept}
use Rattle.exact.specs.Sums.{Sums}

-- a number that fits binary64 and is finite: what may be a factor
abbrev pub Factor : Float → Type 0
Factor x = T (fits binary64 x) × T (finite x)

-- 2 ^ 27 products are 2 ^ 4223 units at most
top : (k n : ℕ) → k ≤ 2 ^ 27 → n ≤ k * cap → n ≤ 2 ^ 4223
unfolding cap
top k n h g = le_trans g (le_trans (mul-le-mul_right (2 ^ 4196) h) (lit≤ tt))

under : (k n : ℕ) → k < 2 ^ 27 → n ≤ k * cap → n < 2 ^ 4223
unfolding cap
under k n h g = lt_of_le_of_lt (le_trans g (mul-le-mul_right (2 ^ 4196) (less k h))) (lit< tt)
  where
    less : (a : ℕ) → a < 2 ^ 27 → a ≤ 2 ^ 27 - 1
    less a p = omega arith

product_few : (x y : Float) → Factor x → Factor y → units x * units y ≤ cap
unfolding cap
product_few x y (a, b) (c, d) = mul-le-mul {n₂ = 2 ^ 2098} {m₂ = 2 ^ 2098} (units_few x a b) (units_few y c d)

cond_few : (b : Bool) (n : ℕ) → n ≤ cap → (cond b 0 n ≤ cap) × (cond b n 0 ≤ cap)
cond_few true n h = (omega arith, h)
cond_few false n h = (h, omega arith)

pub one_factor : Factor one
unfolding of_bits of_fields odd count_trailing_zeros fits
one_factor = (tt, tt)

held_is : (n : ℕ) (l : List ℕ) → l ≡ limbs_of sum_limbs n → n ≤ 2 ^ 4223 → value l ≡ n
held_is n l e h = ap value e ∙ value_limbs 66 n (lt_of_le_of_lt h (lit< tt))

pub row_length : (n : ℕ) (l : List ℕ) → l ≡ limbs_of sum_limbs n → length l ≡ sum_limbs
row_length n l e = ap length e ∙ length_limbs 66 n

-- nothing is added yet
pub no_terms : (p m : List ℕ) → p ≡ limbs_of sum_limbs 0 → m ≡ limbs_of sum_limbs 0 → Sums 0 none p m
no_terms p m a b = record { plus_row = a; minus_row = b; plus_few = omega arith; minus_few = omega arith }

-- with the rows exchanged, a sum is its opposite
pub exchanged : (k : ℕ) (e : Exact) (p m : List ℕ) → Sums k e p m → Sums k (opposite e) m p
exchanged k e p m s = record { plus_row = s.minus_row; minus_row = s.plus_row; plus_few = s.minus_few; minus_few = s.plus_few }

module _ (k : ℕ) (e : Exact) (p m : List ℕ) (s : Sums k e p m) where
  -- at most 2 ^ 27 terms: nothing is cut off, and the rows stand for the sum itself
  pub not_cut : k ≤ 2 ^ 27 → (value p ≡ e.plus) × (value m ≡ e.minus)
  not_cut h = (held_is e.plus p s.plus_row (top k e.plus h s.plus_few), held_is e.minus m s.minus_row (top k e.minus h s.minus_few))

  -- fewer than 2 ^ 27 terms: nothing stands against one more
  free : (x y : Float) → k < 2 ^ 27 → Factor x → Factor y → check_of p m x y ≡ Ok tt
  unfolding check_of
  free x y h X Y =
      let a : value p ≡ e.plus = (not_cut (omega arith)).0 in
      let b : value m ≡ e.minus = (not_cut (omega arith)).1 in
      let c : value p < 2 ^ 4223 = subst (λ (n : ℕ). n < 2 ^ 4223) (sym a) (under k e.plus h s.plus_few) in
      let d : value m < 2 ^ 4223 = subst (λ (n : ℕ). n < 2 ^ 4223) (sym b) (under k e.minus h s.minus_few) in
      rw (eq-eqb (length p) 66 (row_length e.plus p s.plus_row), eq-eqb (length m) 66 (row_length e.minus m s.minus_row), is_true (finite x) X.1, is_true (finite y) Y.1, lt-ltb (value p) (2 ^ 4223) c, lt-ltb (value m) (2 ^ 4223) d)

  -- so it is never refused
  pub is_kept : (x y : Float) (r : Result ⊤ Unkept) (p' m' : List ℕ) → k < 2 ^ 27 → Factor x → Factor y → rows_of r p' m' ≡ kept_of p m x y → IsOk r
  unfolding kept_of
  is_kept x y r p' m' h X Y q = let e : r ≡ Ok tt = ap (λ (w : Rows). w.answer) (rw (free x y h X Y) at q) in rw e

  -- but added
  pub one_more_lem : (x y : Float) (r : Result ⊤ Unkept) (p' m' : List ℕ) → k < 2 ^ 27 → Factor x → Factor y
      → rows_of r p' m' ≡ kept_of p m x y → Sums (k + 1) (added e (times x y)) p' m'
  unfolding kept_of
  one_more_lem x y r p' m' h X Y q =
      let f = cond_few (unlike (sign x) (sign y)) (units x * units y) (product_few x y X Y) in
      let z = rw (free x y h X Y, (not_cut (omega arith)).0, (not_cut (omega arith)).1) at q in
      record {
        plus_row = ap (λ (w : Rows). w.plus) z;
        minus_row = ap (λ (w : Rows). w.minus) z;
        plus_few = go e.plus _ k cap s.plus_few f.0;
        minus_few = go e.minus _ k cap s.minus_few f.1;
      }
    where
      go : (v n j c : ℕ) → v ≤ j * c → n ≤ c → v + n ≤ (j + 1) * c
      go v n j c u w = omega arith

  pub one_float : (x : Float) (r : Result ⊤ Unkept) (p' m' : List ℕ) → k < 2 ^ 27 → Factor x
      → rows_of r p' m' ≡ kept_of p m x one → Sums (k + 1) (added e (whole x)) p' m'
  one_float x r p' m' h X q = one_more_lem x one r p' m' h X one_factor q

  -- and the comparison with a tolerance is that of the sum
  pub is_within : (t : Float) → k ≤ 2 ^ 27 → T (finite t) → within_of p m t ≡ within e t
  unfolding within_of
  is_within t h f =
      rw (eq-eqb (length p) 66 (row_length e.plus p s.plus_row), eq-eqb (length m) 66 (row_length e.minus m s.minus_row), is_true (finite t) f, (not_cut h).0, (not_cut h).1)
