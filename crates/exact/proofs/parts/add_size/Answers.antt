-- `exact::parts::add_size` meets its contract.
use Rattle.std.proofs.Common.{ℕ, ◌+◌, ap, ◌∙◌, arith}
use Rattle.exact.specs.Limbs.{value}
use Rattle.exact.proofs.Room.{placed, has_place}
use Rattle.exact.proofs.parts.add_size.Goals as goal

pub add_product-requires : goal.add_product-requires
add_product-requires c =
    let x = c.args.x in
    let y = c.args.y in
    (c.requires.0.few, c.requires.1.few, omega arith, has_place c.args.limbs.now x.digits x.place y.digits y.place c.requires.0 c.requires.1 c.requires.2)

pub returns : goal.returns
returns c =
    let x = c.args.x in
    let y = c.args.y in
    let e = c.add_product.ensures in
    record { limbs = e.limbs; sum = e.sum ∙ ap (λ (n : ℕ). value c.args.limbs.now + n) (placed x.digits x.place y.digits y.place) }
