-- `exact::reaches` meets its contract.
use Rattle.std.proofs.Common.{ℕ, ◌+◌, ◌*◌, T, leb, ap, ◌∙◌}
use lib.Count.{count_trailing_zeros}
use lib.Ieee.{of_bits, of_fields, odd}
use lib.Ieee.Scale.{finite}
use Rattle.exact.specs.Limbs.{value}
use Rattle.num.specs.Literals.{one}
use Rattle.exact.proofs.Room.{row_under, wide_roomy}
use Rattle.exact.proofs.reaches.Goals as goal

one-finite : T (finite one)
unfolding of_bits of_fields odd count_trailing_zeros
one-finite = tt

pub parts_of-requires-2 : goal.parts_of-requires-2
parts_of-requires-2 c = one-finite

pub add_size-requires : goal.add_size-requires
add_size-requires c =
    let w = c.widened-sum.ensures in
    (c.parts_of.ensures.1, c.parts_of-2.ensures.1, wide_roomy _ w.limbs (rw w.same (row_under c.args.a.now c.requires.0 (λ j. (c.shared_slice_known-1.given j).fits))))

pub returns : goal.returns
returns c =
    c.at_most.ensures ∙ ap (λ (n : ℕ). leb (value c.args.b.now) n) (c.add_size.ensures.sum ∙ (λ i. c.widened-sum.ensures.same i + c.parts_of.ensures.0 i * c.parts_of-2.ensures.0 i))
