-- The kit's rounding of a number over a count is the float that is packed from the leading digits of the quotient. Assumes nothing.
use Rattle.std.proofs.Common.{◌≡◌, ℕ, zero, suc, ◌+◌, ◌-◌, ◌*◌, ◌/◌, ◌%◌, ◌^◌, ◌<◌, ◌≤◌, Bool, true, false, cond, ◌&&◌, T, eqb, ◌⊎◌, sym, refl, ap, ◌∙◌, subst, inl, inr, mul_assoc, mul_comm, add_comm, mul-pos, le-div_iff_mul-le, arith, pow_pos, pow-add}
use native.Mathlib.Nat.{div-div-eq-div-mul, mul-div-mul_right}
use lib.Arith.{mod-mul, digits_div, digits_mod}
use lib.Ieee.{Float, binary64, size, units, round, fits, of_bits}
use lib.Ieee.Digits.{size_reaches}
use lib.Ieee.Fits.{round_is, round-fits}
use lib.Ieee.Nearest.{closest, closest_same}
use Rattle.mean.specs.Leading.{dropped_of, marked, nearest_fourth, pattern_of, Leads}
use Rattle.mean.proofs.Places.{zero_sum}
use Rattle.mean.proofs.Sticky.{sticky}
use Rattle.mean.proofs.Pattern.{pattern}

module _ (S c : ℕ) (C : 0 < c) where
  -- the quotient in units of 2 ^ -1074 has the digits of S / c from the place 1074 on
  in_units : S * 2 ^ 1074 / (c * 2 ^ 2148) ≡ S / c / 2 ^ 1074
  in_units =
      ap (λ (n : ℕ). S * 2 ^ 1074 / n) (ap (λ (n : ℕ). c * n) (pow-add 2 1074 1074) ∙ sym (mul_assoc c (2 ^ 1074) (2 ^ 1074)))
      ∙ mul-div-mul_right S (c * 2 ^ 1074) (pow_pos 1074)
      ∙ sym (div-div-eq-div-mul S c (2 ^ 1074))

  -- all but two of the digits kept: a quarter of S over 2 ^ p c
  quarter : (k : ℕ) → closest (S * 2 ^ 1074) (c * 2 ^ 2148 * 2 ^ k) ≡ closest S (4 * (2 ^ (1072 + k) * c))
  quarter k =
      closest_same (S * 2 ^ 1074) (c * 2 ^ 2148 * 2 ^ k) S (4 * (2 ^ (1072 + k) * c)) (mul-pos (mul-pos C (pow_pos 2148)) (pow_pos k)) (mul-pos (pow_pos 2) (mul-pos (pow_pos (1072 + k)) C))
      (ap (λ (n : ℕ). S * 2 ^ 1074 * (2 ^ 2 * (n * c))) (pow-add 2 1072 k) ∙ left S (2 ^ 1074) (2 ^ 2) (2 ^ 1072) (2 ^ k) c ∙ ap (λ (n : ℕ). S * (c * n * 2 ^ k)) (whole) ∙ refl)
    where
      left : (a P D Q K b : ℕ) → a * P * (D * (Q * K * b)) ≡ a * (b * (P * (D * Q)) * K)
      left a P D Q K b = omega arith

      whole : 2 ^ 1074 * (2 ^ 2 * 2 ^ 1072) ≡ 2 ^ 2148
      whole = ap (λ (n : ℕ). 2 ^ 1074 * n) (sym (pow-add 2 2 1072)) ∙ sym (pow-add 2 1074 1074)

  clear : (p : ℕ) → eqb (S % (2 ^ p * c)) 0 ≡ (eqb (S % c) 0 && eqb (S / c % 2 ^ p) 0)
  clear p = ap (λ (n : ℕ). eqb n 0) (mod-mul S {m = 2 ^ p} {c = c} (pow_pos p) C ∙ add_comm (S / c % 2 ^ p * c) (S % c)) ∙ zero_sum (S / c % 2 ^ p) (S % c) c C

  -- the digits that a float keeps, with k dropped
  digits : (k : ℕ) → closest S (4 * (2 ^ (1072 + k) * c)) ≡ nearest_fourth (marked (eqb (S % c) 0 && eqb (S / c % 2 ^ (1072 + k)) 0) (S / c / 2 ^ (1072 + k)))
  digits k =
      sticky S (2 ^ (1072 + k) * c) (mul-pos (pow_pos (1072 + k)) C)
      ∙ (λ j. nearest_fourth (marked (clear (1072 + k) j) ((ap (λ (n : ℕ). S / n) (mul_comm (2 ^ (1072 + k)) c) ∙ sym (div-div-eq-div-mul S c (2 ^ (1072 + k)))) j)))

  rounded : (s : Bool) (k w : ℕ) → Leads (S / c) (eqb (S % c) 0) k w → round binary64 s S (c * 2 ^ 2148) ≡ units binary64 s (nearest_fourth w) k
  unfolding dropped_of
  rounded s k w l =
      round_is binary64 s S (c * 2 ^ 2148)
      ∙ ap (λ (n : ℕ). units binary64 s (closest (S * 2 ^ 1074) (c * 2 ^ 2148 * 2 ^ n)) n) (ap (λ (n : ℕ). size n - 53) in_units ∙ sym l.places)
      ∙ ap (λ (n : ℕ). units binary64 s n k) (quarter k ∙ digits k ∙ ap nearest_fourth (sym l.word))

  -- where digits are dropped, all 55 are there
  full : (k : ℕ) → k ≡ dropped_of (S / c) → (k ≡ 0) ⊎ (2 ^ 54 ≤ S / c / 2 ^ (1072 + k))
  unfolding dropped_of
  full zero e = inl refl
  full (suc k) e = inr ((le-div_iff_mul-le (pow_pos (1072 + suc k))).1 (subst (λ (n : ℕ). n ≤ S / c) (sym (pow-add 2 (53 + k) 1074) ∙ ap (λ (n : ℕ). 2 ^ n) (place k) ∙ pow-add 2 54 (1072 + suc k)) ((le-div_iff_mul-le (pow_pos 1074)).0 (size_reaches (S / c / 2 ^ 1074) (53 + k) (reach (size (S / c / 2 ^ 1074)) k e)))))
    where
      place : (a : ℕ) → 53 + a + 1074 ≡ 54 + (1072 + suc a)
      place a = omega arith

      reach : (n a : ℕ) → suc a ≡ n - 53 → 53 + a < n
      reach n a f = omega arith

  kept : (t : Bool) (v : ℕ) → 2 ^ 54 ≤ v → 2 ^ 52 ≤ nearest_fourth (marked t v)
  kept true v h = omega arith
  kept false v h = omega arith

  short : (w : ℕ) → w < 2 ^ 55 → nearest_fourth w ≤ 2 ^ 53
  short w h = omega arith

  lead : (k w : ℕ) → Leads (S / c) (eqb (S % c) 0) k w → (k ≡ 0) ⊎ (2 ^ 52 ≤ nearest_fourth w)
  lead k w l = elim (full k l.places) [
    | inl e ↦ inl e
    | inr h ↦ inr (subst (λ (n : ℕ). 2 ^ 52 ≤ nearest_fourth n) (sym l.word) (kept (eqb (S % c) 0 && eqb (S / c % 2 ^ (1072 + k)) 0) (S / c / 2 ^ (1072 + k)) h))
  ]

  pub rounds : (s : Bool) (k w : ℕ) → Leads (S / c) (eqb (S % c) 0) k w → round binary64 s S (c * 2 ^ 2148) ≡ of_bits binary64 (cond s (2 ^ 63) 0 + pattern_of k (nearest_fourth w))
  rounds s k w l =
      let e = rounded s k w l in
      e ∙ pattern (nearest_fourth w) k (short w l.short) (lead k w l) s (subst (λ (x : Float). T (fits binary64 x)) e (round-fits binary64 s S (c * 2 ^ 2148)))

-- by a division that is done
pub divided : (s : Bool) (S c q r k w : ℕ) → 0 < c → q * c + r ≡ S → r < c → Leads q (eqb r 0) k w → round binary64 s S (c * 2 ^ 2148) ≡ of_bits binary64 (cond s (2 ^ 63) 0 + pattern_of k (nearest_fourth w))
divided s S c q r k w C e h l =
    rounds S c C s k w
    (subst (λ (n : ℕ). Leads n (eqb (S % c) 0) k w) (sym (digits_div q h) ∙ ap (λ (n : ℕ). n / c) e)
    (subst (λ (n : ℕ). Leads q (eqb n 0) k w) (sym (digits_mod q h) ∙ ap (λ (n : ℕ). n % c) e) l))
