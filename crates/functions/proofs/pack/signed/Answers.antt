-- `functions::pack::signed` meets its contract. Assumes nothing.
use Rattle.std.proofs.Common.{◌≡◌, ℕ, ◌+◌, ◌^◌, ◌<◌, Bool, true, false, cond, not, T, sym, ap, ◌∙◌, subst, add-zero, arith, w64, Fits}
use lib.Ieee.{binary64, neg, of_bits, nan_bits}
use Rattle.functions.specs.Words.{packed, Room}
use Rattle.functions.specs.Laws.Packed.{packed_lt, packs_number, bits_negated, packs_negated}
use Rattle.functions.proofs.pack.signed.Goals as goal

fits : (s : Bool) (n : ℕ) → n < 2 ^ 63 → Fits w64 (n + cond s (2 ^ 63) 0)
fits true n h = omega arith
fits false n h = omega arith

module _ (c : goal.After-sign_bit) where
  abbrev b : ℕ
  b = c.args.b

  abbrev p : ℕ
  p = c.args.p

  abbrev s : Bool
  s = c.args.minus

  word : p < 2 ^ 64
  word = omega arith

  low : packed b p < 2 ^ 63
  low = packed_lt b p word c.requires

  sum : c.packed_bits.result + c.sign_bit.result ≡ packed b p + cond s (2 ^ 63) 0
  sum = ap (λ (n : ℕ). n + c.sign_bit.result) c.packed_bits.ensures ∙ ap (λ (n : ℕ). packed b p + n) c.sign_bit.ensures

number : (t : Bool) (b p : ℕ) → p < 2 ^ 64 → Room b p → T (not (nan_bits binary64 (packed b p + cond t (2 ^ 63) 0)))
number true b p h r = packs_negated b p h r
number false b p h r = subst (λ (n : ℕ). T (not (nan_bits binary64 n))) (sym (add-zero (packed b p))) (packs_number b p h r)

turned : (t : Bool) (n : ℕ) → n < 2 ^ 63 → of_bits binary64 (n + cond t (2 ^ 63) 0) ≡ cond t (neg (of_bits binary64 n)) (of_bits binary64 n)
turned true n h = sym (bits_negated n h)
turned false n h = ap (λ (m : ℕ). of_bits binary64 m) (add-zero n)

pub overflow_add-result : goal.overflow_add-result
overflow_add-result c = subst (λ (n : ℕ). Fits w64 n) (sym (sum c)) (fits (s c) (packed (b c) (p c)) (low c))

pub float_from_bits-result : goal.float_from_bits-result
float_from_bits-result c = subst (λ (n : ℕ). T (not (nan_bits binary64 n))) (sym (sum c)) (number (s c) (b c) (p c) (word c) c.requires)

pub returns : goal.returns
returns c = ap (λ (n : ℕ). of_bits binary64 n) (sum c) ∙ turned (s c) (packed (b c) (p c)) (low c)
