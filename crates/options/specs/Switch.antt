-- A switch among the options is a word: 0 is off, and anything else is on. Clients cite on.
use Rattle.std.specs.Prelude.{ℕ, Bool, not, eqb}

abbrev pub on : ℕ → Bool
on word = not (eqb word 0)
