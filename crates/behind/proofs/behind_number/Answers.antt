-- `behind::behind_number` meets its contract: a record's place is below the sheet's length, so that one more is a number. Assumes nothing.
use Rattle.std.proofs.Common.{sym, ◌∙◌, arith, length}
use native.Mathlib.Nat.{div-le_self}
use Rattle.sheet.specs.Record.{record_bytes}
use Rattle.behind.specs.Behind.{behind_number}
use Rattle.behind.proofs.Laws.First.{first_at}
use Rattle.behind.proofs.behind_number.Goals as goal

pub returns-in-None : goal.returns-in-None
unfolding behind_number
returns-in-None c = rw (← c.first_in.ensures, c.in-None.is)

pub overflow_add-result : goal.overflow_add-result
overflow_add-result c =
    let s = c.args.sheet.now in
    let p = first_at _ _ _ _ _ _ (sym c.first_in.ensures ∙ c.in-Some.is) in
    record { fits = omega (arith, p.place, div-le_self (length s) record_bytes) }

pub returns-in-Some : goal.returns-in-Some
unfolding behind_number
returns-in-Some c = rw (← c.first_in.ensures, c.in-Some.is)
