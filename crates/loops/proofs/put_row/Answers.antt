-- `loops::put_row` meets its contract. Assumes nothing.
use Prim.Native.Nat.{ℕ, suc, ◌+◌, ◌-◌, ◌<◌, ◌≤◌}
use mathlib.Core.Path.{◌≡◌, refl, sym, ap, ◌∙◌}
use mathlib.Core.List.{List, ◌++◌, append_assoc}
use native.Mathlib.Omega.{arith}
use native.Mathlib.Numerals.{add-one}
use lib.ListN.{length, take, drop, set, length-take, length-drop, length-set}
use lib.Seq.{drop-drop, take-suc-set, drop-set-lt}
use lib.Ieee.{Float}
use Rattle.loops.specs.Loop.{copied, row_at, row_put}
use Rattle.loops.specs.Laws.Loop.{copied_same, row_fits_lem, row_too_long, row_put-length}
use Rattle.loops.proofs.put_row.Goals as goal

-- the store and the copied part are the row
module _ (rows v y : List Float) (place a e : ℕ) (t : Float) (p : a ≡ place + 1) (q : e ≡ a + length v) (h : e ≤ length rows) (s : y ≡ copied v (take (e - a) (drop a (set rows place t)))) where
  laid : take a (set rows place t) ++ (y ++ drop (e - a) (drop a (set rows place t))) ≡ row_put place t v rows
  unfolding row_at
  laid =
      let b : place < length rows = omega arith in
      let w : e - a ≡ length v = omega arith in
      let l : length v ≡ length (take (e - a) (drop a (set rows place t))) = simp (length-take, length-drop, length-set) (omega arith) in
      let i : y ≡ v = s ∙ copied_same v _ l in
      rw (row_fits_lem place t v rows (omega arith), w, i, p, drop-drop, add-one, take-suc-set rows place t b, drop-set-lt (suc place + length v) rows place t (omega arith), append_assoc)

put : goal.returns
put c =
    let a = c.args in
    laid a.rows.now a.v.now _ a.place (a.place + 1) (a.place + 1 + length a.v.now) a.t refl refl (omega arith) c.copy.ensures

pub returns-then-rows-place : goal.returns-then-rows-place
returns-then-rows-place c =
    let a = c.args in
    sym (row_too_long a.place a.t a.v.now a.rows.now (omega arith))

pub returns-then-rows-a : goal.returns-then-rows-a
returns-then-rows-a c =
    let a = c.args in
    sym (row_too_long a.place a.t a.v.now a.rows.now (omega arith))

pub slice_bounds-copy-end : goal.slice_bounds-copy-end
slice_bounds-copy-end c = simp length-set (omega arith)

pub shape_of-rows : goal.shape_of-rows
shape_of-rows c = ap length (put c) ∙ row_put-length _ _ _ _

pub returns : goal.returns
returns c = put c
