-- `decimal::scale::cut_at` meets its contract.
use borrow.Author.Rules.{rules}
use mathlib.Core.Path.{refl, sym, subst, ◌∙◌}
use Prim.Native.Nat.{ℕ, ◌^◌, ◌<◌}
use native.Mathlib.Nat.{lt_of_lt_of_le}
use lib.Dec.{lit<, lit≤}
use Rattle.decimal.proofs.Units.{room_first, room_second, join_times, join_over, whole_at, whole_few, even_at}
use Rattle.decimal.proofs.scale.cut_at.Goals as goal

pub times_long-requires : goal.times_long-requires
times_long-requires c =
    let a = c.args.a in
    let pre = c.requires in
    let j1 = c.limbs_of-l.ensures in
    (search rules, search rules, refl, search rules, search rules, j1.few, room_first _ a _ _ pre.0 pre.1 pre.2 c.saturating_sub.ensures j1)

pub times_long-requires-2 : goal.times_long-requires-2
times_long-requires-2 c =
    let a = c.args.a in
    let pre = c.requires in
    let j1 = c.limbs_of-l.ensures in
    let j2 = join_times 36 _ _ _ _ j1 c.times_long.ensures in
    (search rules, search rules, refl, search rules, search rules, j2.few, room_second _ a _ _ _ _ pre.0 pre.1 pre.2 c.place_of-w.ensures c.saturating_sub.ensures c.saturating_sub-2.ensures j2)

pub number_of-requires : goal.number_of-requires
number_of-requires c =
    let a = c.args.a in
    let pre = c.requires in
    let j1 = c.limbs_of-l.ensures in
    let j2 = join_times 36 _ _ _ _ j1 c.times_long.ensures in
    let j3 = join_times 36 _ _ _ _ j2 c.times_long-2.ensures in
    let j4 = join_over 36 _ _ _ _ j3 c.over_long-twos.ensures.0 in
    let j5 = join_over 36 _ _ _ _ j4 c.over_long-tens.ensures.0 in
    let w = c.place_of-w.ensures in
    let x = c.saturating_sub.ensures in
    let y = c.saturating_sub-2.ensures in
    let u = c.saturating_sub-3.ensures in
    let v = c.saturating_sub-4.ensures in
    let whole = whole_at _ a _ _ _ _ _ _ w x y u v j5 in
    (subst (λ (n : ℕ). 1 < n) (sym j5.limbs) (lit< tt), j5.few, lt_of_lt_of_le (subst (λ (n : ℕ). n < 2 ^ 63) (sym whole) (whole_few _ a pre.0 pre.1 pre.2)) (lit≤ {m = 2 ^ 63} tt))

pub returns : goal.returns
returns c =
    let a = c.args.a in
    let pre = c.requires in
    let j1 = c.limbs_of-l.ensures in
    let j2 = join_times 36 _ _ _ _ j1 c.times_long.ensures in
    let j3 = join_times 36 _ _ _ _ j2 c.times_long-2.ensures in
    let j4 = join_over 36 _ _ _ _ j3 c.over_long-twos.ensures.0 in
    let j5 = join_over 36 _ _ _ _ j4 c.over_long-tens.ensures.0 in
    let w = c.place_of-w.ensures in
    let x = c.saturating_sub.ensures in
    let y = c.saturating_sub-2.ensures in
    let u = c.saturating_sub-3.ensures in
    let v = c.saturating_sub-4.ensures in
    let whole = whole_at _ a _ _ _ _ _ _ w x y u v j5 in
    let even = even_at _ a _ _ _ _ _ _ _ _ _ _ w x y u v j3 j4 c.over_long-twos.ensures.1 c.over_long-tens.ensures.1 refl in
    λ i. record { whole = (c.number_of.ensures ∙ whole) i; even = even i }
