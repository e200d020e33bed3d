-- How a decimal number is written: d times 10^(place - 326), where d has n digits, so that its first digit stands for 10^(place + n - 327). Clients cite digits_in, layout_of, powered_of, power_size and parts_of.
use Rattle.std.specs.Prelude.{ℕ, zero, suc, ◌+◌, ◌-◌, ◌/◌, ◌%◌, ◌^◌, cond, nat_le, nat_lt, Option, None, Some}
use Rattle.pen.specs.declared.number.Layout.{Layout}
use Rattle.pen.specs.declared.number.Layout.TheVariants.{Whole, Below, Inside, Power}
use Rattle.pen.specs.declared.number.Parts.{Parts}

-- how many of 10, 100, .., so many of them, the number n reaches
abbrev pub reached : ℕ → ℕ → ℕ
reached n zero = 0
reached n (suc k) = cond (nat_le (10 ^ suc k) n) (reached n k + 1) (reached n k)

-- the digits of a number of 64 bits: one, and one more for every power of ten that it reaches
unfoldable pub digits_in : ℕ → ℕ
digits_in n = reached n 19 + 1

-- the first digit stands at 10^(end - 327): so far from 10^0
abbrev pub power_size : ℕ → ℕ
power_size end = cond (nat_lt end 327) (327 - end) (end - 327)

-- one digit before the point, the others behind it, and the first digit's power of ten with its sign
abbrev pub powered_of : ℕ → ℕ → Layout
powered_of n end = Power (n - 1) (nat_lt end 327) (power_size end)

-- with a power of ten below 10^-4 and from 10^16 on; else whole with zeros behind, all behind the point with zeros before, or on both sides. No float has a place above 1000.
abbrev pub layout_of : ℕ → ℕ → Option Layout
layout_of n place =
    cond (nat_lt 1000 place) None
    (cond (nat_lt (place + n) 323) (Some (powered_of n (place + n)))
    (cond (nat_lt 342 (place + n)) (Some (powered_of n (place + n)))
    (cond (nat_le 326 place) (Some (Whole (place - 326)))
    (cond (nat_le (place + n) 326) (Some (Below (326 - (place + n))))
    (Some (Inside (326 - place)))))))

-- the digits before the point and the k behind it, of which zeros stand first where the number behind has fewer
abbrev pub parts_of : ℕ → ℕ → Parts
parts_of d k = record { before = d / 10 ^ k; zeros = k - digits_in (d % 10 ^ k); behind = d % 10 ^ k }
