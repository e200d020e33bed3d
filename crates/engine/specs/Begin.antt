-- The buffers as a run begins. Clients cite forgotten.
use Rattle.std.specs.Prelude.{ℕ, Bool, cond, ◌||◌, List, eqb, length, set, Float}
use Rattle.numbers.specs.Kinds.{diode, inductor}
use Rattle.num.specs.Floats.{nought}
use Rattle.loops.specs.Loop.{turns}
use Rattle.sheet.specs.Record.{kind_at}

-- the kinds that remember something
abbrev pub remembers : ℕ → Bool
remembers kind = eqb kind diode || eqb kind inductor

-- "Diode memory starts at 0.0", and so does an inductor's; other records' floats untouched
abbrev pub forget_at : List ℕ → ℕ → List Float → List Float
forget_at sheet i memory = cond (remembers (kind_at sheet i)) (set memory i nought) memory

unfoldable pub forgotten : List ℕ → List Float → List Float
forgotten sheet memory = turns (length memory) (forget_at sheet) memory
