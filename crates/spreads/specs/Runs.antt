-- The jobs one after the other: each one's numbers at its place of three lists, and its vector at its place of the vectors. Clients cite job_at, Table, table_of and table_after; ResultRoom and ScratchRoom say what the work demands.
use Rattle.std.specs.Prelude.{ℕ, ◌+◌, ◌*◌, ◌/◌, ◌≤◌, ◌≡◌, List, ◌++◌, take, drop, Float}
use Rattle.numbers.specs.Limits.{most_unknowns, most_jobs}
use Rattle.loops.specs.Each.{each, joined}
use Rattle.options.specs.declared.Options.{Options}
use Rattle.sheet.specs.Record.{record_bytes}
use Rattle.single.specs.declared.Mark.{Mark}
use Rattle.single.specs.Single.{Single, single}

-- the sheet of job j among sheets of so many bytes each
abbrev pub sheet_at : ℕ → List ℕ → ℕ → List ℕ
sheet_at bytes sheets j = take bytes (drop (j * bytes) sheets)

-- job j
abbrev pub job_at : Options → ℕ → ℕ → ℕ → List ℕ → List ℕ → ℕ → Single
job_at o nodes sources bytes sheets points j = single o nodes sources (sheet_at bytes sheets j) points

-- the sheets hold so many jobs, and the result buffers have room for them
pub record ResultRoom (jobs bytes n sheets vectors numbers places passes : ℕ) : Type 0 where
  pub small : n ≤ most_unknowns
  pub few : jobs ≤ most_jobs
  pub whole : jobs * bytes ≤ sheets
  pub «vector-room» : jobs * n ≤ vectors
  pub «number-room» : jobs ≤ numbers
  pub «place-room» : jobs ≤ places
  pub «pass-room» : jobs ≤ passes

-- the lengths of the scratch buffers of a job
pub record ScratchRoom (bytes n base system elimination memory : ℕ) : Type 0 where
  pub bases : base ≡ n * (n + 1)
  pub systems : system ≡ n * (n + 1)
  pub works : elimination ≡ n * (n + 1)
  pub memories : memory ≡ bytes / record_bytes

-- what one job leaves
pub record Entry : Type 0 where
  pub mark : Mark
  pub vectors : List Float

abbrev pub entry_of : Mark → List Float → Entry
entry_of m v = record { mark = m; vectors = v }

-- its vector in its place, of N floats
abbrev pub entry_at : Single → ℕ → ℕ → List Float → Entry
entry_at s n j vectors = entry_of s.mark (take (j * n) vectors ++ (s.vector ++ drop n (drop (j * n) vectors)))

-- what all jobs leave
pub record Table : Type 0 where
  pub vectors : List Float
  pub numbers : List ℕ
  pub places : List ℕ
  pub passes : List ℕ

abbrev pub table_of : List Float → List ℕ → List ℕ → List ℕ → Table
table_of v n p q = record { vectors = v; numbers = n; places = p; passes = q }

-- "Return for each its verdict, pass count and vector", and nothing past them changes
abbrev pub table_after : (ℕ → Single) → ℕ → ℕ → List Float → List ℕ → List ℕ → List ℕ → Table
table_after job n jobs v ns ps qs =
    table_of
    (joined (λ (j : ℕ). (job j).vector) jobs ++ drop (jobs * n) v)
    (each (λ (j : ℕ). (job j).mark.number) jobs ++ drop jobs ns)
    (each (λ (j : ℕ). (job j).mark.place) jobs ++ drop jobs ps)
    (each (λ (j : ℕ). (job j).mark.passes) jobs ++ drop jobs qs)
