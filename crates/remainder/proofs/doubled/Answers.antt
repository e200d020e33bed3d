-- Twice what is left is what is left of twice as much.
use Rattle.std.proofs.Common.{◌≡◌, ℕ, ◌+◌, ◌*◌, ◌%◌, ◌^◌, sym, ap, ◌∙◌, arith, mod-lt, mod-eq_of_lt, mul-one, mul_comm, mul_left_comm}
use lib.Pow.{pow-add}
use Rattle.std.proofs.lemmas.Nat.{mul-mod_second}
use Rattle.remainder.proofs.doubled.Goals as goal

once : (r i n : ℕ) → (2 * ((r * 2 ^ i) % n)) % n ≡ (r * 2 ^ (i + 1)) % n
once r i n = mul-mod_second 2 (r * 2 ^ i) n ∙ ap (λ (z : ℕ). z % n) (mul_left_comm 2 r (2 ^ i) ∙ ap (λ (z : ℕ). r * z) (mul_comm 2 (2 ^ i) ∙ sym (pow-add 2 i 1)))

pub loop-i-init : goal.loop-i-init
loop-i-init c = (sym (ap (λ (z : ℕ). z % c.args.n) (mul-one c.args.r) ∙ mod-eq_of_lt c.requires.below), c.requires.below)

pub loop-i-preserved : goal.loop-i-preserved
loop-i-preserved c =
    let l = c.loop-i in
    (rw l.invariant.0 (once c.args.r l._i c.args.n), mod-lt _ (omega arith))
