-- `functions::pack::nearest` meets its contract. Assumes nothing.
use Rattle.std.proofs.Common.{ℕ, ◌^◌, ◌<◌, not, T, sym, ap, subst, arith}
use lib.Ieee.{binary64, of_bits, nan_bits}
use Rattle.functions.specs.Laws.Packed.{packs_number}
use Rattle.functions.proofs.pack.nearest.Goals as goal

pub float_from_bits-result : goal.float_from_bits-result
float_from_bits-result c =
    let w : c.args.p < 2 ^ 64 = omega arith in
    subst (λ (n : ℕ). T (not (nan_bits binary64 n))) (sym c.packed_bits.ensures) (packs_number c.args.b c.args.p w c.requires)

pub returns : goal.returns
returns c = ap (λ (n : ℕ). of_bits binary64 n) c.packed_bits.ensures
