-- How many digits a number has, and what that says of it: the digits are the fewest that hold it, its place and its digits tell whether it is below 10^-4 or from 10^16 on, and a point parts the digits without loss.
-- Clients cite fewest, digits_few, below, above, parted and filled. Assumes nothing.
use Rattle.std.specs.Prelude.{◌≡◌, ℕ, zero, suc, ◌+◌, ◌-◌, ◌*◌, ◌%◌, ◌^◌, ◌<◌, ◌≤◌, Bool, true, false, cond, nat_le, refl}
use Rattle.std.proofs.Math.Path.{sym}
use Rattle.std.proofs.Common.{subst, ⊎_elim, mul-le-mul_right, mul-lt-mul_of_pos_right, lt_of_lt_of_le, le_trans, div-add-mod', mod-lt, arith, le-leb, lit<, lit≤, pow-add}
use Rattle.std.proofs.Math.Nat.{pow-le-pow_right, one-le-pow}
use Rattle.std.proofs.lemmas.Bool.{lt-leb}
use Rattle.pen.specs.Digits.{IsDigitCount}
use Rattle.loops.specs.Laws.Loop.{le_or_lt}
use Rattle.pen.specs.Layout.{reached, digits_in, parts_of}

module _ (n r : ℕ) (f : IsDigitCount 10 1 n r) where
  -- the powers below its first digit's and that one are reached
  reaches : (j : ℕ) → j < r → reached n j ≡ j
  reaches zero h = refl
  reaches (suc j) h =
      rw (reaches j (omega arith), le-leb (10 ^ suc j) n (le_trans (pow-le-pow_right {n = 10} (lit< {m = 0} {n = 10} tt) {i = suc j} {j = r - 1} (omega arith)) (f.2 (omega arith)))) (omega arith)

  -- and no other
  stays : (j : ℕ) → r ≤ j + 1 → reached n j + 1 ≡ r
  stays zero h = omega (arith, f.0)
  stays (suc j) h =
      ⊎_elim
      (λ (g : r ≤ j + 1). rw (lt-leb (10 ^ suc j) n (lt_of_lt_of_le f.1 (pow-le-pow_right {n = 10} (lit< {m = 0} {n = 10} tt) {i = r} {j = suc j} (omega arith)))) (stays j g))
      (λ (g : j + 1 < r). rw (reaches (suc j) (omega arith)) (omega arith))
      (le_or_lt r (j + 1))

  -- a number of 64 bits has at most 20 digits
  twenty : n < 2 ^ 64 → r ≤ 20
  twenty h =
      ⊎_elim
      (λ (g : r ≤ 20). g)
      (λ (g : 20 < r). absurd (omega (arith, lit≤ {m = 2 ^ 64} {n = 10 ^ 20} tt, pow-le-pow_right {n = 10} (lit< {m = 0} {n = 10} tt) {i = 20} {j = r - 1} (omega arith), f.2 (omega arith))))
      (le_or_lt r 20)

  pub fewest : n < 2 ^ 64 → r ≡ digits_in n
  unfolding digits_in
  fewest h = sym (stays 19 (twenty h))

  pub digits_few : n < 2 ^ 64 → (0 < r) × (r < 32)
  digits_few h = let t = twenty h in (omega (arith, f.0), omega arith)

-- a number of n digits, times 10^place: below 10^e where its digits end at e or before, and at least 10^e where they end behind it. With the places counted from 10^-326, e is 322 for 10^-4 and 342 for 10^16.
module _ (d n place : ℕ) where
  pub below : (e : ℕ) → d < 10 ^ n → place + n ≤ e → d * 10 ^ place < 10 ^ e
  below e h g =
      lt_of_lt_of_le (mul-lt-mul_of_pos_right h (one-le-pow place 10 (lit< {m = 0} {n = 10} tt)))
      (subst (λ (m : ℕ). m ≤ 10 ^ e) (pow-add 10 n place) (pow-le-pow_right {n = 10} (lit< {m = 0} {n = 10} tt) {i = n + place} {j = e} (omega arith)))

  pub above : (e : ℕ) → 0 < n → 10 ^ (n - 1) ≤ d → e < place + n → 10 ^ e ≤ d * 10 ^ place
  above e p h g =
      le_trans (subst (λ (m : ℕ). 10 ^ e ≤ m) (pow-add 10 (n - 1) place) (pow-le-pow_right {n = 10} (lit< {m = 0} {n = 10} tt) {i = e} {j = (n - 1) + place} (omega arith)))
      (mul-le-mul_right (10 ^ place) h)

-- the digits before a point and those behind it are all of them
pub parted : (d k : ℕ) → (parts_of d k).before * 10 ^ k + (parts_of d k).behind ≡ d
parted d k = div-add-mod' d (10 ^ k)

-- with their zeros those behind the point are k
pub filled : (d k : ℕ) → 0 < k → (parts_of d k).zeros + digits_in (parts_of d k).behind ≡ k
unfolding digits_in
filled d k p = go (d % 10 ^ k) (mod-lt d (one-le-pow k 10 (lit< {m = 0} {n = 10} tt)))
  where
    most : (b j : ℕ) → reached b j ≤ j
    most b zero = omega arith
    most b (suc j) = step (nat_le (10 ^ suc j) b) (most b j)
      where
        step : (t : Bool) → reached b j ≤ j → cond t (reached b j + 1) (reached b j) ≤ suc j
        step true h = omega arith
        step false h = omega arith

    fewer : (b j : ℕ) → b < 10 ^ k → reached b j + 1 ≤ k
    fewer b zero h = omega arith
    fewer b (suc j) h =
        ⊎_elim
        (λ (g : k ≤ suc j). rw (lt-leb (10 ^ suc j) b (lt_of_lt_of_le h (pow-le-pow_right {n = 10} (lit< {m = 0} {n = 10} tt) {i = k} {j = suc j} g))) (fewer b j h))
        (λ (g : suc j < k). omega (arith, most b (suc j)))
        (le_or_lt k (suc j))

    go : (b : ℕ) → b < 10 ^ k → k - (reached b 19 + 1) + (reached b 19 + 1) ≡ k
    go b h = back (reached b 19) (fewer b 19 h)
      where
        back : (x : ℕ) → x + 1 ≤ k → k - (x + 1) + (x + 1) ≡ k
        back x g = omega arith
