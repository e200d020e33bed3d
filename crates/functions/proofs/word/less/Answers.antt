-- `functions::word::less` meets its contract. Assumes nothing.
use Rattle.std.proofs.Common.{ℕ, ◌≤◌, sym, subst, le_trans}
use Rattle.functions.proofs.Halves.{upper_le_left}
use Rattle.functions.proofs.word.less.Goals as goal

pub overflow_sub-result : goal.overflow_sub-result
overflow_sub-result c = subst (λ (n : ℕ). n ≤ c.args.c) (sym c.upper.ensures) (le_trans (upper_le_left c.args.a c.args.y c.ranges.y.fits) c.requires)
