-- The places of the diodes, listed once for all passes: to go through the list, and to read each listed record as a diode's, comes to the same as to go through all records and to decode them.
-- A place is a byte, so the first 256 records can be listed. Clients cite diodes_among, places_of, diode_places, Listed and listed_of.
use Rattle.std.specs.Prelude.{ℕ, zero, suc, ◌+◌, ◌-◌, min, ◌≡◌, Bool, true, false, cond, List, [], ◌∷◌, ◌++◌, eqb, length, get_or, drop, Result, Float}
use Rattle.numbers.specs.Kinds.{diode}
use Rattle.numbers.specs.Limits.{most_records}
use Rattle.options.specs.declared.Options.{Options}
use Rattle.loops.specs.Loop.{turns}
use Rattle.std.specs.declared.result.Result.TheVariants.{Ok, Err}
use Rattle.sheet.specs.declared.Element.{Element}
use Rattle.sheet.specs.Record.{record_at, diode_of}
use Rattle.sheet.specs.Check.{records_of}
use Rattle.groups.specs.Records.{record_in}
use Rattle.groups.specs.Diodes.{Stamped, stamped_of, biased, biased_at}

-- whether a record has an element
abbrev pub good_of : {E : Type 0} → Result Element E → Bool
good_of (Ok e) = true
good_of (Err k) = false

-- whether record i is a diode
unfoldable pub diode_in : List ℕ → ℕ → Bool
diode_in sheet i = good_of (record_in diode diode sheet i)

-- the places of the diodes among the first k records, in rising order
unfoldable pub diodes_among : List ℕ → ℕ → List ℕ
diodes_among sheet zero = []
diodes_among sheet (suc k) = diodes_among sheet k ++ cond (diode_in sheet k) (k ∷ []) []

-- how many numbers stand at the front of a list, and the list
pub record Places : Type 0 where
  pub count : ℕ
  pub list : List ℕ

abbrev pub places_of : ℕ → List ℕ → Places
places_of count list = record { count = count; list = list }

-- what was found at the front of a list, and behind it the rest as it was
abbrev pub fronted : List ℕ → List ℕ → Places
fronted found list = places_of (length found) (found ++ drop (length found) list)

-- the places of the diodes at a list's front: among the first 256 records, or among as many as the list has numbers if that is fewer
unfoldable pub diode_places : List ℕ → List ℕ → Places
diode_places sheet list = fronted (diodes_among sheet (min (min (records_of sheet) most_records) (length list))) list

-- record i read as a diode, whatever it is; after a verdict nothing more is stamped
unfoldable pub as_diode : Options → List ℕ → ℕ → List Float → ℕ → Stamped → Stamped
as_diode o sheet n x i s = cond (eqb s.code 0) (biased o n x i s.matrix s.memory (diode_of (record_at sheet i))) s

-- the same of the record that a list has at j
abbrev pub listed_at : Options → List ℕ → ℕ → List Float → List ℕ → ℕ → Stamped → Stamped
listed_at o sheet n x list j s = as_diode o sheet n x (get_or list j 0) s

-- record i of those that are not listed
abbrev pub rest_at : Options → List ℕ → ℕ → List Float → ℕ → Stamped → Stamped
rest_at o sheet n x i s = biased_at o sheet n x (most_records + i) s

-- the first c numbers of a list are the places of the diodes among the first k records, whatever options, order, vector, matrix and memory a pass has
pub record ListedTo (sheet : List ℕ) (k c : ℕ) (list : List ℕ) : Type 0 where
  pub all : (o : Options) (n : ℕ) (x : List Float) (s : Stamped) → turns c (listed_at o sheet n x list) s ≡ turns k (biased_at o sheet n x) s

-- among all records of a sheet that can be listed
abbrev pub Listed : List ℕ → ℕ → List ℕ → Type 0
Listed sheet c list = ListedTo sheet (min (records_of sheet) most_records) c list

-- the listed records, each read as a diode, and then those that are not listed
unfoldable pub listed_of : Options → List ℕ → List ℕ → ℕ → List Float → List Float → List Float → Stamped
listed_of o sheet list n x m y = turns (records_of sheet - most_records) (rest_at o sheet n x) (turns (length list) (listed_at o sheet n x list) (stamped_of 0 m y))
