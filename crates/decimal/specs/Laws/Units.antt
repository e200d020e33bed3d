-- What holds of the decimal unit at every exponent's field: the powers and the unit's denominator are above 0. Clients cite power_pos, bottom_pos and the record Quarter, which quarter_facts in proofs/Laws/Units.antt shows of every field.
use Rattle.std.specs.Prelude.{ℕ, zero, suc, ◌-◌, ◌*◌, ◌^◌, ◌≤◌, ◌<◌}
use Rattle.std.proofs.Common.{sym, subst, pow-suc, mul-pos, lit<, pow_pos}
use Rattle.std.proofs.Math.Nat.{pow-zero}
use Rattle.decimal.specs.Scale.{place_of, top, bottom}

pub power_pos : (d i : ℕ) → 0 < d → 0 < d ^ i
power_pos d zero h = subst (λ (n : ℕ). 0 < n) (sym (pow-zero d)) (pow_pos 0)
power_pos d (suc i) h = subst (λ (n : ℕ). 0 < n) (sym (pow-suc d i)) (mul-pos (power_pos d i h) h)

pub record Quarter (b : ℕ) : Type 0 where
  pub least : 10 * bottom b ≤ top b
  pub most : top b < 101 * bottom b
  pub short : 2 ^ (b - 1077) * 10 ^ (326 - place_of b) ≤ 2 ^ 1090

pub bottom_pos : (b : ℕ) → 0 < bottom b
unfolding bottom
bottom_pos b = mul-pos (pow_pos 1077) (power_pos 10 (place_of b) (lit< tt))
