-- Small sheets and what the check answers, computed: each refusal of 6 to 10, the lowest of several, the first of two faulty records, and source numbers that inductors share.
use Rattle.std.specs.Prelude.{ℕ, ◌≡◌, refl, List, [], ◌∷◌, ◌++◌, map, take, replicate}
use Rattle.num.specs.Le.{le32, le64, float_at}
use Rattle.sheet.specs.declared.Limits.{Limits}
use Rattle.sheet.specs.Record.{record_bytes, record_at, decode_of, element_of, uses_of, rest_zero, zeros}
use Rattle.sheet.specs.Range.{nodes_of, sources_of, points_of, nodes_fit, sources_fit, points_fit, element_fault}
use Rattle.sheet.specs.Sharing.{shares, none_shares}
use Rattle.sheet.specs.Check.{check_from, check_of, number_of, place_of}

-- a record that begins with these bytes; the rest is zero
abbrev begins : List ℕ → List ℕ
begins bytes = take record_bytes (bytes ++ replicate record_bytes 0)

-- three nodes, one source, two points
abbrev limits : Limits
limits = record { nodes = 3; sources = 1; points = 2 }

abbrev resistor : List ℕ
resistor = begins (1 ∷ 0 ∷ 1 ∷ 0 ∷ 2 ∷ [])

abbrev pattern : List ℕ
pattern = begins (7 ∷ 0 ∷ 1 ∷ 0 ∷ 2 ∷ 0 ∷ 0 ∷ 0 ∷ 0 ∷ 0 ∷ 0 ∷ 0 ∷ 1 ∷ 0 ∷ 1 ∷ [])

-- a record between nodes 1 and 2 of a kind that has a source number
abbrev numbered : ℕ → ℕ → List ℕ
numbered kind source = begins (kind ∷ 0 ∷ 1 ∷ 0 ∷ 2 ∷ 0 ∷ 0 ∷ 0 ∷ 0 ∷ 0 ∷ source ∷ [])

abbrev inductor : ℕ → List ℕ
inductor source = numbered 11 source

abbrev voltage : ℕ → List ℕ
voltage source = numbered 3 source

unfoldable pub sheets : List (List ℕ)
sheets =
    []
    ∷ (resistor ++ pattern)
    ∷ begins (0 ∷ 1 ∷ [])  -- kind 0, and byte 1
    ∷ (resistor ++ begins (12 ∷ []))  -- kind 12
    ∷ begins (1 ∷ 1 ∷ [])  -- byte 1
    ∷ begins (1 ∷ 0 ∷ 3 ∷ 0 ∷ 0 ∷ 0 ∷ 0 ∷ 0 ∷ 0 ∷ 0 ∷ 1 ∷ [])  -- a source number that R does not use, before its node
    ∷ begins (1 ∷ 0 ∷ 0 ∷ 0 ∷ 3 ∷ [])  -- second node
    ∷ begins (10 ∷ 0 ∷ 0 ∷ 0 ∷ 0 ∷ 0 ∷ 0 ∷ 0 ∷ 3 ∷ [])  -- second control node
    ∷ begins (9 ∷ 0 ∷ 0 ∷ 0 ∷ 0 ∷ 0 ∷ 3 ∷ 0 ∷ 0 ∷ 0 ∷ 1 ∷ [])  -- first control node, before the source number
    ∷ (pattern ++ begins (3 ∷ 0 ∷ 0 ∷ 0 ∷ 0 ∷ 0 ∷ 0 ∷ 0 ∷ 0 ∷ 0 ∷ 1 ∷ []))  -- source number
    ∷ begins (7 ∷ 0 ∷ 0 ∷ 0 ∷ 0 ∷ 0 ∷ 0 ∷ 0 ∷ 0 ∷ 0 ∷ 0 ∷ 0 ∷ 1 ∷ 0 ∷ 2 ∷ [])  -- one point too many
    ∷ begins (7 ∷ 0 ∷ 0 ∷ 0 ∷ 0 ∷ 0 ∷ 0 ∷ 0 ∷ 0 ∷ 0 ∷ 0 ∷ 0 ∷ 255 ∷ 255 ∷ 1 ∷ [])  -- a sum beyond 16 bits
    ∷ begins (7 ∷ 0 ∷ 0 ∷ 0 ∷ 0 ∷ 0 ∷ 0 ∷ 0 ∷ 0 ∷ 0 ∷ 0 ∷ 0 ∷ 2 ∷ [])  -- no point, from the end on
    ∷ (resistor ++ begins (1 ∷ 0 ∷ 3 ∷ []) ++ begins (12 ∷ []))  -- the first faulty record counts
    ∷ []

unfoldable pub answers : List (ℕ × ℕ)
answers =
    (0, 0) ∷ (0, 0) ∷ (6, 0) ∷ (6, 1) ∷ (7, 0) ∷ (7, 0) ∷ (8, 0) ∷ (8, 0) ∷ (8, 0) ∷ (9, 1) ∷ (10, 0) ∷ (10, 0) ∷ (0, 0) ∷ (8, 1) ∷ []

-- source numbers that inductors share: the same counts with a second source
abbrev two : Limits
two = record { nodes = 3; sources = 2; points = 2 }

unfoldable pub shared : List (List ℕ)
shared =
    (inductor 0 ++ inductor 1)
    ∷ inductor 2  -- no such source
    ∷ begins (11 ∷ 0 ∷ 0 ∷ 0 ∷ 3 ∷ [])  -- second node
    ∷ begins (11 ∷ 0 ∷ 0 ∷ 0 ∷ 0 ∷ 0 ∷ 1 ∷ [])  -- a control node that it does not use
    ∷ begins (11 ∷ 0 ∷ 0 ∷ 0 ∷ 0 ∷ 0 ∷ 0 ∷ 0 ∷ 0 ∷ 0 ∷ 0 ∷ 0 ∷ 1 ∷ [])  -- a point that it does not use
    ∷ (inductor 0 ++ voltage 0)
    ∷ (voltage 0 ++ inductor 0)
    ∷ (inductor 0 ++ inductor 0)
    ∷ (voltage 0 ++ voltage 0 ++ inductor 1)
    ∷ (voltage 0 ++ voltage 0 ++ inductor 0)
    ∷ (inductor 1 ++ voltage 0 ++ resistor ++ voltage 0)
    ∷ (inductor 1 ++ voltage 0 ++ resistor ++ voltage 1)
    ∷ (inductor 0 ++ numbered 6 0)
    ∷ (inductor 0 ++ numbered 7 0)
    ∷ (inductor 0 ++ numbered 9 0)
    ∷ (numbered 6 0 ++ inductor 0)
    ∷ (numbered 7 0 ++ inductor 0)
    ∷ (numbered 9 0 ++ inductor 0)
    ∷ (inductor 0 ++ begins (3 ∷ 0 ∷ 3 ∷ []))  -- a node, before the source number that it shares
    ∷ (inductor 0 ++ begins (7 ∷ 0 ∷ 0 ∷ 0 ∷ 0 ∷ 0 ∷ 0 ∷ 0 ∷ 0 ∷ 0 ∷ 0 ∷ 0 ∷ 1 ∷ 0 ∷ 2 ∷ []))  -- the source number that it shares, before a point too many
    ∷ (inductor 0 ++ begins (12 ∷ []) ++ voltage 0)  -- a faulty record comes first
    ∷ []

unfoldable pub sharing : List (ℕ × ℕ)
sharing =
    (0, 0) ∷ (9, 0) ∷ (8, 0) ∷ (7, 0) ∷ (7, 0)
    ∷ (9, 1) ∷ (9, 1) ∷ (9, 1) ∷ (0, 0) ∷ (9, 2) ∷ (0, 0) ∷ (9, 3)
    ∷ (9, 1) ∷ (9, 1) ∷ (9, 1) ∷ (9, 1) ∷ (9, 1) ∷ (9, 1)
    ∷ (8, 1) ∷ (9, 1) ∷ (6, 1)
    ∷ []

-- number and place of a sheet's check
abbrev answer : Limits → List ℕ → ℕ × ℕ
answer l s = (number_of (check_of s l), place_of (check_of s l))

pub all_right : (map (answer limits) sheets ≡ answers) × (map (answer two) shared ≡ sharing)
unfolding sheets answers shared sharing check_from record_at decode_of element_of uses_of rest_zero zeros nodes_of sources_of points_of nodes_fit sources_fit points_fit element_fault shares none_shares le32 le64 float_at
all_right = (refl, refl)
