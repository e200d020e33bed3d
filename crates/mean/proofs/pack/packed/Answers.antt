-- `mean::pack::packed` meets its contract.
use Rattle.std.proofs.Common.{◌≡◌, ℕ, ◌+◌, ◌*◌, ◌%◌, ◌^◌, ◌<◌, ◌≤◌, Bool, true, false, cond, not, T, sym, ap, ◌∙◌, subst, arith, le-ltb}
use native.Mathlib.Nat.{min-le_right}
use lib.Ieee.{binary64, of_bits, nan_bits}
use lib.Ieee.Bits.{nan_bits_above}
use Rattle.mean.specs.Leading.{pattern_of, nearest_fourth}
use Rattle.mean.proofs.pack.packed.Goals as goal

sum : (c : goal.After-min) → c.sign_bit.result + c.min.result ≡ cond c.args.minus (2 ^ 63) 0 + pattern_of c.args.places (nearest_fourth c.args.word)
sum c = λ j. c.sign_bit.ensures j + c.min.ensures j

fits : (s : Bool) (n : ℕ) → n ≤ 2047 * 2 ^ 52 → cond s (2 ^ 63) 0 + n < 2 ^ 64
fits true n h = omega arith
fits false n h = omega arith

-- bits up to infinity's are no NaN's, with the sign's bit or without
number : (s : Bool) (n : ℕ) → n ≤ 2047 * 2 ^ 52 → T (not (nan_bits binary64 (cond s (2 ^ 63) 0 + n)))
number s n h = subst (λ (t : Bool). T (not t)) (sym (nan_bits_above binary64 (cond s (2 ^ 63) 0 + n) ∙ le-ltb (2047 * 2 ^ 52) ((cond s (2 ^ 63) 0 + n) % 2 ^ 63) (go s))) tt
  where
    go : (t : Bool) → (cond t (2 ^ 63) 0 + n) % 2 ^ 63 ≤ 2047 * 2 ^ 52
    go true = omega arith
    go false = omega arith

pub overflow_add-result : goal.overflow_add-result
overflow_add-result c = record { fits = subst (λ (n : ℕ). n < 2 ^ 64) (sym (sum c)) (fits c.args.minus (pattern_of c.args.places (nearest_fourth c.args.word)) (min-le_right _ _)) }

pub float_from_bits-result : goal.float_from_bits-result
float_from_bits-result c = subst (λ (n : ℕ). T (not (nan_bits binary64 n))) (sym (sum c)) (number c.args.minus (pattern_of c.args.places (nearest_fourth c.args.word)) (min-le_right _ _))

pub returns : goal.returns
returns c = ap (of_bits binary64) (sum c)
