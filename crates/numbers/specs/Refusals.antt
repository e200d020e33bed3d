-- The refusals of a call. 0 is none.
use Rattle.std.specs.Prelude.{ℕ, Result, Ok, Err}
use Rattle.numbers.specs.declared.refusal.Refusal.{Refusal}
use Rattle.numbers.specs.declared.refusal.Refusal.TheVariants.{Order, Sheet, Points, Counts, Room, Kind, Unused, Node, Source, Pattern, Tolerance, Argument, Jobs}

-- no node, or N above the limit
abbrev pub by_order : ℕ
by_order = 1

-- the sheet's length
abbrev pub by_sheet : ℕ
by_sheet = 2

-- the points' length
abbrev pub by_points : ℕ
by_points = 3

-- iteration limits or the budget
abbrev pub by_counts : ℕ
by_counts = 4

-- a lent buffer is too short
abbrev pub by_room : ℕ
by_room = 5

-- a record's kind
abbrev pub by_kind : ℕ
by_kind = 6

-- a byte of a record that must be zero
abbrev pub by_unused : ℕ
by_unused = 7

-- a record's node
abbrev pub by_node : ℕ
by_node = 8

-- a record's source number
abbrev pub by_source : ℕ
by_source = 9

-- a record's points
abbrev pub by_pattern : ℕ
by_pattern = 10

-- the judge: a number that is not finite, or a tolerance below zero
abbrev pub by_tolerance : ℕ
by_tolerance = 11

-- the sine: its argument
abbrev pub by_argument : ℕ
by_argument = 12

-- the spreads: the number of jobs, or the chosen unknown
abbrev pub by_jobs : ℕ
by_jobs = 13

-- the number of each
abbrev pub number_of : Refusal → ℕ
number_of Order = by_order
number_of Sheet = by_sheet
number_of Points = by_points
number_of Counts = by_counts
number_of Room = by_room
number_of Kind = by_kind
number_of Unused = by_unused
number_of Node = by_node
number_of Source = by_source
number_of Pattern = by_pattern
number_of Tolerance = by_tolerance
number_of Argument = by_argument
number_of Jobs = by_jobs

-- the number of what a call answers: 0 where it is not refused
abbrev pub refused_by : {T : Type 0} → Result T Refusal → ℕ
refused_by (Ok x) = 0
refused_by (Err e) = number_of e
