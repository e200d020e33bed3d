-- What the loop of `solve::pivot::search` keeps true.
use mathlib.Core.Path.{◌≡◌}
use Prim.Native.Nat.{ℕ, ◌-◌, ◌≤◌, ◌<◌}
use lib.ListN.{length}
use lib.Ieee.{Float}
use Rattle.num.specs.Floats.{nought}
use Rattle.loops.specs.Loop.{turns}
use Rattle.solve.specs.Solve.{row_start, larger}
use Rattle.solve.specs.Inner.{Rows, Lists}
use Rattle.solve.proofs.pivot.search.Given as goal

abbrev pub invariant-loop-r : goal.invariant-loop-r
invariant-loop-r l = (l.k < l.r) × (l.r ≤ l.n) × (l.count < l.r) × (length l.list ≡ length l.initial.list) × (l.best.row < l.n) × (◌≡◌ {A = Float × ℕ} (l.best.size, l.best.row) (turns (l.r - l.k) (larger (row_start l.n) l.k l.m) (nought, l.k))) × Rows l.n l.count l.list × Lists l.n l.k l.r l.count l.list l.m
