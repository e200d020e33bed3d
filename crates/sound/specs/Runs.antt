-- What a job leaves: a line, and its vector in its place. Clients cite line_of, entry_of, entry_by and entry_at. Definitions only.
use Rattle.std.specs.Prelude.{ℕ, ◌*◌, List, ◌++◌, take, drop, Float}
use Rattle.single.specs.Single.{Single}
use Rattle.sound.specs.declared.runs.Line.{Line}
use Rattle.sound.specs.Causes.{cause_of, numbers_of}

-- what is written down for it: its own number, its cause with its place, and its passes
abbrev pub line_of : List Float → ℕ → Single → Line
line_of tolerances n x =
    let c = numbers_of (cause_of x tolerances n) in
    record { number = x.mark.number; cause = c.cause; place = c.place; passes = x.mark.passes }

pub record Entry : Type 0 where
  pub line : Line
  pub vectors : List Float

abbrev pub entry_of : Line → List Float → Entry
entry_of l v = record { line = l; vectors = v }

-- alone, with its own vector
abbrev pub entry_by : List Float → ℕ → Single → Entry
entry_by tolerances n x = entry_of (line_of tolerances n x) x.vector

-- among others, its vector in its place of N floats
abbrev pub entry_at : List Float → Single → ℕ → ℕ → List Float → Entry
entry_at tolerances x n j vectors = entry_of (line_of tolerances n x) (take (j * n) vectors ++ (x.vector ++ drop n (drop (j * n) vectors)))
