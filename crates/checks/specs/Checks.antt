-- Refusals 1 to 10 in their order. Clients cite sizes_fault, sizes_refusal, checked_of, order, cells, records and limits_of.
use Rattle.std.specs.Prelude.{ℕ, ◌+◌, ◌*◌, ◌/◌, Bool, cond, ◌||◌, ◌&&◌, List, eqb, ltb, Result, Ok, Err, ⊤}
use Rattle.numbers.specs.Limits.{most_unknowns, most_passes, most_budget}
use Rattle.numbers.specs.Refusals.{by_order, by_sheet, by_points, by_counts, by_room}
use Rattle.options.specs.declared.Options.{Options}
use Rattle.sheet.specs.declared.Limits.{Limits}
use Rattle.numbers.specs.declared.refusal.Refusal.{Refusal}
use Rattle.sheet.specs.Record.{record_bytes}
use Rattle.sheet.specs.Check.{Checked, point_bytes, bad_sheet, bad_points, check_of, ends_at}
use Rattle.checks.specs.declared.Sizes.{Sizes}

-- N: nodes (ground included) plus sources
abbrev pub order : Sizes → ℕ
order z = z.nodes + z.sources

-- the floats of a matrix of N rows by N + 1
abbrev pub cells : Sizes → ℕ
cells z = order z * (order z + 1)

abbrev pub records : Sizes → ℕ
records z = z.sheet / record_bytes

-- 1: no node, or N above 48
unfoldable pub bad_order : ℕ → ℕ → Bool
bad_order nodes sources = eqb nodes 0 || ltb most_unknowns (nodes + sources)

-- 4: ITL1, ITL3 or ITL4 above 10,000; budget 0 or above 1,000,000
abbrev pub high_limit : Options → Bool
high_limit o = ltb most_passes o.itl1 || ltb most_passes o.itl3 || ltb most_passes o.itl4

unfoldable pub bad_counts : Options → Bool
bad_counts o = high_limit o || eqb o.budget 0 || ltb most_budget o.budget

-- 5: a lent buffer too short: three matrices of N(N+1), vector N, one float of memory per record, rows N+1 (transient)
abbrev pub short_matrix : Sizes → Bool
short_matrix z = ltb z.base (cells z) || ltb z.system (cells z) || ltb z.elimination (cells z)

abbrev pub short_vector : Sizes → Bool
short_vector z = ltb z.vector (order z) || ltb z.memory (records z)

unfoldable pub bad_room : Sizes → Bool
bad_room z = short_matrix z || short_vector z || (z.transient && ltb z.rows (order z + 1))

-- the first of 1 to 5 that holds, in this order
abbrev pub or_else : Bool → Refusal → Result ⊤ Refusal → Result ⊤ Refusal
or_else bad k rest = cond bad (Err k) rest

unfoldable pub sizes_fault : Options → Sizes → Result ⊤ Refusal
sizes_fault o z =
    or_else (bad_order z.nodes z.sources) Refusal.Order
    (or_else (bad_sheet z.sheet) Refusal.Sheet
    (or_else (bad_points z.points) Refusal.Points
    (or_else (bad_counts o) Refusal.Counts
    (or_else (bad_room z) Refusal.Room
    (Ok tt)))))

-- its number; 0 where none does
unfoldable pub sizes_refusal : Options → Sizes → ℕ
sizes_refusal o z =
    cond (bad_order z.nodes z.sources) by_order
    (cond (bad_sheet z.sheet) by_sheet
    (cond (bad_points z.points) by_points
    (cond (bad_counts o) by_counts
    (cond (bad_room z) by_room
    0))))

-- what 8, 9 and 10 compare with
abbrev pub limits_of : Sizes → Limits
limits_of z = record { nodes = z.nodes; sources = z.sources; points = z.points / point_bytes }

-- 1 to 5 with place 0, then the sheet's 6 to 10 with the record's
unfoldable pub checked_of : Options → Sizes → List ℕ → Checked
checked_of o z sheet = ends_at 0 (sizes_fault o z) (check_of sheet (limits_of z))
