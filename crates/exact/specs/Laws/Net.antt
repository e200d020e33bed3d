-- Exact numbers add up as whole numbers do, and a float's is the float. Clients cite net_added, net_whole and size_is. Assumes nothing.
use Rattle.std.specs.Prelude.{◌≡◌, ℕ, ◌+◌, ◌*◌, ◌^◌, Bool, true, false, cond, ℤ, pos, ◌+ℤ◌, ◌-ℤ◌, neg_ℤ, Float}
use Rattle.std.proofs.Common.{sym, ap, ◌∙◌}
use Rattle.std.proofs.Math.IntN.{+ℤ_assoc, +ℤ_comm, +ℤ_idl, +ℤ_idr, neg_ℤ-+ℤ}
use Rattle.std.specs.Float.Ieee.{unlike}
use Rattle.num.specs.Floats.{sign}
use Rattle.exact.specs.Exact.{Exact, units, size, whole, added}
use Rattle.exact.specs.Net.{net, signed}
use Rattle.exact.specs.Laws.Units.{one_sign, one_units}

-- the middle two of four change places
four : (a b c d : ℤ) → (a +ℤ b) +ℤ (c +ℤ d) ≡ (a +ℤ c) +ℤ (b +ℤ d)
four a b c d =
    +ℤ_assoc a b (c +ℤ d)
    ∙ ap (λ (x : ℤ). a +ℤ x) (sym (+ℤ_assoc b c d) ∙ ap (λ (x : ℤ). x +ℤ d) (+ℤ_comm b c) ∙ +ℤ_assoc c b d)
    ∙ sym (+ℤ_assoc a c (b +ℤ d))

pub net_added : (a b : Exact) → net (added a b) ≡ net a +ℤ net b
net_added a b =
    ap (λ (x : ℤ). pos (a.plus + b.plus) +ℤ x) (neg_ℤ-+ℤ (pos a.minus) (pos b.minus))
    ∙ four (pos a.plus) (pos b.plus) (neg_ℤ (pos a.minus)) (neg_ℤ (pos b.minus))

pub net_whole : (x : Float) → net (whole x) ≡ signed x
net_whole x =
    ap (λ (s : Bool). pos (cond (unlike (sign x) s) 0 (size x)) -ℤ pos (cond (unlike (sign x) s) (size x) 0)) one_sign
    ∙ go (sign x) (size x)
  where
    go : (s : Bool) (n : ℕ) → pos (cond (unlike s false) 0 n) -ℤ pos (cond (unlike s false) n 0) ≡ cond s (neg_ℤ (pos n)) (pos n)
    go true n = +ℤ_idl (neg_ℤ (pos n))
    go false n = +ℤ_idr (pos n)

-- a float of k times 2 ^ -1074 has the size k times 2 ^ 1074
pub size_is : (x : Float) → size x ≡ units x * 2 ^ 1074
size_is x = ap (λ (n : ℕ). units x * n) one_units
