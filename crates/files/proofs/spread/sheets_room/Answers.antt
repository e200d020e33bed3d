use Rattle.std.proofs.Common.{◌≡◌, ℕ, length, sym}
use Rattle.std.specs.Prelude.{replicate}
use Rattle.std.proofs.lemmas.List.{length-replicate}
use Rattle.files.proofs.spread.sheets_room.Goals as goal

-- for every n, since the length of so long a list is not to be computed
zeros : (n : ℕ) → n ≡ length (replicate {A = ℕ} n 0)
zeros n = sym (length-replicate n 0)

pub returns : goal.returns
returns c = zeros 2621440
