-- `stamps::stamp_inductor` meets its contract: two lists of writes and one write more, one after the other, are the joined list. Assumes nothing.
use Prim.Native.Nat.{ℕ}
use mathlib.Core.Path.{◌≡◌, sym, ap, ◌∙◌}
use mathlib.Core.List.{List, [], ◌∷◌, ◌++◌}
use lib.Ieee.{Float}
use Rattle.stamps.specs.Write.{Write, written, stamped}
use Rattle.stamps.specs.Kinds.{inductor_writes}
use Rattle.stamps.specs.Laws.Write.{joined}
use Rattle.stamps.proofs.stamp_inductor.Goals as goal

in_turn_lem : (n : ℕ) (xs ys : List Write) (x : Write) (m : List Float) → written n x (stamped n ys (stamped n xs m)) ≡ stamped n (xs ++ (ys ++ (x ∷ []))) m
unfolding stamped
in_turn_lem n xs ys x m = sym (joined n xs (ys ++ (x ∷ [])) m ∙ joined n ys (x ∷ []) (stamped n xs m))

pub returns : goal.returns
unfolding inductor_writes
returns c =
    let c3 = c.before.before in
    let c2 = c3.before.before.before.before in
    c3.put_at.ensures ∙ (ap (written _ _) (c2.stamp_current.ensures ∙ ap (stamped _ _) c.stamp_conductance.ensures) ∙ in_turn_lem _ _ _ _ _)
