-- One write, by the place that it is made at. Assumes nothing.
use Prim.Native.Nat.{ℕ, ◌≤◌}
use mathlib.Core.Path.{◌≡◌, refl, sym, ◌∙◌}
use mathlib.Core.Bool.{Bool, true, false}
use mathlib.Core.List.{List}
use native.Mathlib.Nat.{le_refl}
use lib.ListN.{length, get_or, set}
use lib.Seq.{set_out}
use lib.Ieee.{Float, nan}
use Rattle.stamps.specs.Write.{Write, lands, spot_of, written, changed}

module _ (n : ℕ) (x : Write) (m : List Float) where
  pub within : (at : ℕ) → at ≡ spot_of (length m) n x.row x.column → written n x m ≡ set m at (changed x.change (get_or m at nan))
  unfolding written
  within at e = by_landing (lands n x.row x.column) refl
    where
      by_landing : (b : Bool) → lands n x.row x.column ≡ b → written n x m ≡ set m at (changed x.change (get_or m at nan))
      by_landing true h = rw (e, h)
      by_landing false h = rw (e, h) (sym (set_out m (length m) _ (le_refl (length m))))

  pub beyond : length m ≤ spot_of (length m) n x.row x.column → written n x m ≡ m
  beyond h = within _ refl ∙ set_out m _ _ h
