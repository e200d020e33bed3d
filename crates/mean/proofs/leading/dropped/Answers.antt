-- `mean::leading::dropped` meets its contract.
use Rattle.std.proofs.Common.{◌≡◌, ℕ, ◌+◌, ◌-◌, ◌*◌, ◌≤◌, get_or, sym, ◌∙◌, arith, lit≤}
use lib.Count.{count_leading_zeros, leading_le}
use Rattle.mean.proofs.Places.{dropped_is}
use Rattle.mean.proofs.leading.dropped.Goals as goal

few : (h z : ℕ) → h ≤ 65 → 64 * h + 64 - z - 1127 ≤ 3097
few h z p = omega arith

none : (a z : ℕ) → a - z ≤ 1127 → a - z - 1127 ≡ 0
none a z p = omega arith

pub overflow_cast-digits : goal.overflow_cast-digits
overflow_cast-digits c = let z = leading_le 64 (get_or c.args.l.now c.top-h.result 0) in record { fits = omega arith }

pub overflow_sub-digits : goal.overflow_sub-digits
overflow_sub-digits c = let z = leading_le 64 (get_or c.args.l.now c.top-h.result 0) in omega arith

pub returns-then-digits-gt-FULL : goal.returns-then-digits-gt-FULL
returns-then-digits-gt-FULL c =
    let l = c.args.l.now in
    let h = c.top-h.result in
    let t = c.top-h.ensures in
    (sym (dropped_is l h (λ j. (c.shared_slice_known-1.given j).fits) t), few h _ t.most)

pub returns-else-digits-gt-FULL : goal.returns-else-digits-gt-FULL
returns-else-digits-gt-FULL c =
    let l = c.args.l.now in
    let h = c.top-h.result in
    let t = c.top-h.ensures in
    (sym (dropped_is l h (λ j. (c.shared_slice_known-1.given j).fits) t ∙ none (64 * h + 64) (count_leading_zeros 64 (get_or l h 0)) c.if-digits-gt-FULL.false), lit≤ tt)
