-- `functions::word::next` meets its contract. Assumes nothing.
use Rattle.std.proofs.Common.{ℕ, ◌^◌, ◌≤◌, sym, subst, le_trans}
use Rattle.functions.proofs.Halves.{upper_le, sum_fits}
use Rattle.functions.proofs.word.next.Goals as goal

pub overflow_add-result : goal.overflow_add-result
overflow_add-result c =
    sum_fits c.args.c c.upper.result c.requires.0
    (subst (λ (n : ℕ). n ≤ 2 ^ 62) (sym c.upper.ensures) (le_trans (upper_le c.args.a c.args.y c.ranges.a.fits) c.requires.1))
