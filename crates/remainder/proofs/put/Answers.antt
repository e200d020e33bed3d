-- One product rounds r * 2^place once.
use Rattle.std.proofs.Common.{◌≡◌, ℕ, ◌*◌, ◌^◌, Bool, true, false, refl, ap, ◌∙◌, one-mul, pow_pos, arith}
use Rattle.std.specs.Float.{binary64}
use Rattle.std.specs.Float.Ieee.{round, unlike}
use Rattle.remainder.proofs.Value.{product}
use Rattle.remainder.proofs.put.Goals as goal

plain : (s : Bool) → unlike s false ≡ s
plain true = refl
plain false = refl

pub returns : goal.returns
returns c =
    product binary64 _ _ c.args.minus false c.args.r (2 ^ c.args.place) 1 (2 ^ 1074) (omega arith) (pow_pos 1074) c.signed.ensures c.unit.ensures
    ∙ ap (λ (s : Bool). round binary64 s (c.args.r * 2 ^ c.args.place) (1 * 2 ^ 1074)) (plain c.args.minus)
    ∙ ap (λ (z : ℕ). round binary64 c.args.minus (c.args.r * 2 ^ c.args.place) z) (one-mul (2 ^ 1074))
