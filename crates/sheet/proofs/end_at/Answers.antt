-- `sheet::end_at` meets its contract: what is left is shorter than a record, or nothing. Assumes nothing.
use Rattle.std.proofs.Common.{arith, ◌≡◌, ◌∙◌, sym, ℕ, ◌*◌, ◌-◌, ◌/◌, ◌<◌, List, [], length, take, drop}
use lib.ListN.{length-drop, drop_of_length-le}
use lib.Seq.{take_all, take-nil}
use Rattle.sheet.specs.Record.{record_at}
use Rattle.sheet.proofs.end_at.Goals as goal

module _ (s : List ℕ) (i : ℕ) where
  last : i ≡ length s / 40 → take (length s - 40 * i) (drop (40 * i) s) ≡ record_at s i
  unfolding record_at
  last e = take_all (length s - 40 * i) (drop (40 * i) s) (rw length-drop (omega arith)) ∙ sym (take_all 40 (drop (40 * i) s) (rw length-drop (omega arith)))

  past : length s / 40 < i → [] ≡ record_at s i
  unfolding record_at
  past h = rw (drop_of_length-le s {i = 40 * i} (omega arith), take-nil)

pub returns-then-i-sheet : goal.returns-then-i-sheet
returns-then-i-sheet c = last c.args.sheet.now c.args.i c.if-i-sheet.true

pub returns : goal.returns
returns c = past c.args.sheet.now c.args.i (omega arith)
