-- The check of a whole sheet, and the lengths that refusals 2 and 3 ask for. Clients cite check_of, records_of, number_of, place_of, bad_sheet and bad_points.
use Rattle.std.specs.Prelude.{ℕ, zero, suc, ◌+◌, ◌/◌, ◌%◌, Bool, not, ◌||◌, List, length, eqb, ltb, Result, Ok, Err, ⊤}
use Rattle.numbers.specs.Limits.{most_records, most_points}
use Rattle.numbers.specs.Refusals as Refusals
use Rattle.numbers.specs.declared.refusal.Refusal.{Refusal}
use Rattle.sheet.specs.declared.Limits.{Limits}
use Rattle.sheet.specs.declared.Fault.{Fault}
use Rattle.sheet.specs.Record.{Decoded, record_bytes, record_at, decode_of}
use Rattle.sheet.specs.Range.{element_fault}
use Rattle.sheet.specs.Sharing.{alone}

-- the bytes of a point: time, level
abbrev pub point_bytes : ℕ
point_bytes = 16

-- what a sheet's check finds: nothing, or the first faulty record's lowest refusal of 6 to 10 and its place
abbrev pub Checked : Type 0
Checked = Result ⊤ Fault

-- refused at a place
abbrev pub faulty : Refusal → ℕ → Checked
faulty k i = Err (record { refusal = k; place = i })

-- the refusal of a record: that it does not decode, or that of its element, told whether its source number is its own
abbrev pub record_fault : Limits → (own : Bool) → Decoded → Result ⊤ Refusal
record_fault l own (Err k) = Err k
record_fault l own (Ok e) = element_fault l own e

-- a refused record ends the check at its place; else it goes on with the rest
abbrev pub ends_at : ℕ → Result ⊤ Refusal → Checked → Checked
ends_at i (Err k) rest = faulty k i
ends_at i (Ok u) rest = rest

-- what a record's answer, and whether its source number is its own, do to the check
abbrev pub check_step : Limits → ℕ → (own : Bool) → Decoded → Checked → Checked
check_step l i own d rest = ends_at i (record_fault l own d) rest

-- the n records from number i on: the first faulty record counts, and its lowest number
unfoldable pub check_from : List ℕ → Limits → ℕ → ℕ → Checked
check_from sheet l zero i = Ok tt
check_from sheet l (suc n) i = check_step l i (alone sheet i) (decode_of (record_at sheet i)) (check_from sheet l n (i + 1))

-- the whole records of a sheet
abbrev pub records_of : List ℕ → ℕ
records_of sheet = length sheet / record_bytes

abbrev pub check_of : List ℕ → Limits → Checked
check_of sheet l = check_from sheet l (records_of sheet) 0

-- The numbers of the answers

-- a refusal returns its number and a record place; a clean sheet has 0 for both
abbrev pub number_of : Checked → ℕ
number_of (Ok u) = 0
number_of (Err f) = Refusals.number_of f.refusal

abbrev pub place_of : Checked → ℕ
place_of (Ok u) = 0
place_of (Err f) = f.place

-- Lengths in bytes

-- not whole pieces of so many bytes, or more than so many of them
abbrev pub not_whole : ℕ → ℕ → ℕ → Bool
not_whole size most len = not (eqb (len % size) 0) || ltb most (len / size)

-- 2: sheet not whole records, or above 256
unfoldable pub bad_sheet : ℕ → Bool
bad_sheet len = not_whole record_bytes most_records len

-- 3: points not whole, or above 1,024
unfoldable pub bad_points : ℕ → Bool
bad_points len = not_whole point_bytes most_points len
