-- `exact::limbs::add_product` meets its contract.
use Rattle.std.proofs.Common.{◌≡◌, ℕ, ◌+◌, ◌*◌, ◌/◌, ◌^◌, length, ◌∙◌, arith}
use Rattle.std.specs.Int.{from_bool}
use Rattle.exact.specs.Limbs.{value}
use Rattle.exact.proofs.Words.{added_words}
use Rattle.exact.proofs.limbs.add_product.Goals as goal
use Rattle.exact.proofs.limbs.add_product.Goals.{After-add_word-c2}

halves : (l h m : ℕ) → l + h * 2 ^ 64 ≡ m + 0 → l + 2 ^ 64 * h ≡ m
halves l h m e = omega arith

-- the three words are added, and a carry is left
words : (c : After-add_word-c2) → value c.add_word-c2.new.limbs + from_bool c.add_word-c2.result * 2 ^ (64 * (c.args.bit / 64 + 3)) ≡ value c.args.limbs.now + c.args.a * c.args.b * 2 ^ c.args.bit
words c =
    added_words c.args.limbs.now _ _ _ (c.args.a * c.args.b) _ _ c.args.bit _ _ _ _ _ _ (halves _ _ _ c.carrying_mul-low.ensures)
    c.low_word.ensures c.middle_word.ensures c.high_word.ensures c.add_word-c0.ensures c.add_word-c1.ensures c.add_word-c2.ensures

long : (c : After-add_word-c2) → length c.add_word-c2.new.limbs ≡ length c.args.limbs.now
long c = c.add_word-c2.ensures.limbs ∙ c.add_word-c1.ensures.limbs ∙ c.add_word-c0.ensures.limbs

pub carry_on-requires : goal.carry_on-requires
carry_on-requires c =
    let s = (goal.at.carry_on-requires c).After-add_word-c2 in
    rw (words s, long s) c.requires.3

pub returns : goal.returns
returns c =
    let e = c.carry_on.ensures in
    let s = (goal.at.returns c).After-add_word-c2 in
    record { limbs = e.limbs ∙ long s; sum = e.sum ∙ words s }
