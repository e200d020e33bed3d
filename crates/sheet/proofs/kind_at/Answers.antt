-- `sheet::kind_at` meets its contract. Assumes nothing.
use Prim.Native.Nat.{ℕ}
use mathlib.Core.Path.{ap, ◌∙◌}
use mathlib.Core.List.{List}
use lib.ListN.{get_or}
use Rattle.sheet.proofs.kind_at.Goals as goal

pub returns : goal.returns
returns c = c.byte_at.ensures ∙ ap (λ (r : List ℕ). get_or r 0 0) c.record_at.ensures
