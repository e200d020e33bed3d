-- An error of a record's decoding, told as `Some`. Assumes nothing.
use Rattle.std.specs.Prelude.{◌≡◌, Option, Some, Result, Ok, Err, MatchResult}
use Rattle.numbers.specs.declared.refusal.Refusal.{Refusal}
use Rattle.sheet.specs.declared.Element.{Element}
use Rattle.sheet.specs.Record.{Decoded}
use Rattle.groups.specs.Records.{told}

pub is_told : (d : Decoded) (r : Result Element (Option Refusal)) → MatchResult d (λ e. r ≡ Ok e) (λ k. r ≡ Err (Some k)) → r ≡ told d
is_told (Ok e) r h = h
is_told (Err k) r h = h
