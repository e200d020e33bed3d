-- `models::vpwl::or_zero` meets its contract: a NaN, and nothing else, differs from itself. Assumes nothing.
use mathlib.Core.Path.{◌≡◌, refl, sym, ◌∙◌}
use mathlib.Core.Bool.{true, false}
use Prim.Native.Nat.{◌*◌}
use borrow.Author.Tests.{eq-eqb}
use lib.Ieee.{Float, nan, inf, fin, up, down, eq, ne, is_nan}
use Rattle.models.specs.Vpwl.{or_zero}
use Rattle.models.proofs.vpwl.or_zero.Goals as goal

differs : (x : Float) → ne x x ≡ is_nan x
unfolding ne eq is_nan
differs nan = refl
differs (inf true) = refl
differs (inf false) = refl
differs (fin true m e) = rw (eq-eqb (m * up e * down e) (m * up e * down e) refl)
differs (fin false m e) = rw (eq-eqb (m * up e * down e) (m * up e * down e) refl)

pub returns-then-x : goal.returns-then-x
unfolding or_zero
returns-then-x c = rw (sym (differs c.args.x) ∙ c.if-x.true)

pub returns-else-x : goal.returns-else-x
unfolding or_zero
returns-else-x c = rw (sym (differs c.args.x) ∙ c.if-x.false)
