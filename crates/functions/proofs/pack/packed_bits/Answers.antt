-- `functions::pack::packed_bits` meets its contract. Assumes nothing.
use Rattle.std.proofs.Common.{◌≡◌, ℕ, suc, ◌+◌, ◌-◌, ◌*◌, ◌/◌, ◌%◌, ◌^◌, ◌<◌, sym, ap, ◌∙◌, mod-eq_of_lt, arith}
use lib.Count.{count_leading_zeros, leading_top}
use Rattle.functions.specs.Words.{packed}
use Rattle.functions.specs.Laws.Packed.{leads, digits, some_packs}
use Rattle.functions.proofs.pack.packed_bits.Goals as goal

none : (b p : ℕ) → p ≡ 0 → 0 ≡ packed b p
unfolding packed
none b p e = ap (λ (n : ℕ). packed b n) (sym e)

module _ (c : goal.Else-p-eq0) where
  some : 0 < c.args.p
  some = omega arith

  word : c.args.p < 2 ^ 64
  word = omega arith

  short : count_leading_zeros 64 c.args.p < 64
  short = let t = leading_top 64 c.args.p some word in go (count_leading_zeros 64 c.args.p) t.0 t.1
    where
      go : (z j : ℕ) → z + suc j ≡ 64 → z < 64
      go z j e = omega arith

  -- the bits that the code puts together
  bits_are : (c.args.b - count_leading_zeros 64 c.args.p) * 2 ^ 52 + (c.args.p * 2 ^ count_leading_zeros 64 c.args.p % 2 ^ 64 / 2 ^ 10 + 1) / 2 ^ 1 ≡ packed c.args.b c.args.p
  bits_are =
      let b = c.args.b in
      let p = c.args.p in
      let z = count_leading_zeros 64 p in
      ap (λ (n : ℕ). (b - z) * 2 ^ 52 + digits n) (mod-eq_of_lt (leads p some word).most) ∙ sym (some_packs b p some)

pub returns-then-p-eq0 : goal.returns-then-p-eq0
returns-then-p-eq0 c = none c.args.b c.args.p c.if-p-eq0.true

pub overflow_shl-digits : goal.overflow_shl-digits
overflow_shl-digits c = short c

pub returns : goal.returns
returns c = bits_are c
