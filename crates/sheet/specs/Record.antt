-- The element sheet: what stands in a record, and what a record means. Clients cite record_at, kind_at, decode_of and decode_as.
-- Records of 40 bytes, no header, little-endian. A byte past the end counts as 0.
use Rattle.std.specs.Prelude.{ℕ, zero, suc, ◌+◌, ◌*◌, Bool, true, false, cond, ◌&&◌, ◌||◌, List, get_or, take, drop, eqb, leb, Result, Ok, Err}
use Rattle.numbers.specs.Kinds.{resistor, current, voltage, diode, isin, vsin, vpwl, capacitor, vcvs, vccs, inductor}
use Rattle.numbers.specs.declared.refusal.Refusal.{Refusal}
use Rattle.num.specs.Le.{le16, float_at}
use Rattle.sheet.specs.declared.NodeId.{NodeId}
use Rattle.sheet.specs.declared.SourceId.{SourceId}
use Rattle.sheet.specs.declared.record.Uses.{Uses}
use Rattle.sheet.specs.declared.Element.{Element}
use Rattle.sheet.specs.declared.Element.TheVariants.{R, I, «V», D, Isin, Vsin, Vpwl, C, Vcvs, Vccs, L}

-- what a record decodes to: an element, or refusal 6 or 7
abbrev pub Decoded : Type 0
Decoded = Result Element Refusal

-- the bytes of a record
abbrev pub record_bytes : ℕ
record_bytes = 40

-- record i of a sheet; past the sheet's end there are no bytes
unfoldable pub record_at : List ℕ → ℕ → List ℕ
record_at sheet i = take record_bytes (drop (record_bytes * i) sheet)

-- byte 0 of record i is its kind
abbrev pub kind_at : List ℕ → ℕ → ℕ
kind_at sheet i = get_or (record_at sheet i) 0 0

-- 16-bit: first node at 2, second at 4, control nodes at 6 and 8, source number at 10, first point at 12, point count at 14;
-- floats in the listed order at 16, 24, 32
abbrev pub node_at : List ℕ → ℕ → NodeId
node_at r at = record { 0 = le16 r at }

abbrev pub source_at : List ℕ → ℕ → SourceId
source_at r at = record { 0 = le16 r at }

-- each kind carries its own numbers and no others
abbrev pub resistor_of : List ℕ → Element
resistor_of r = R (node_at r 2) (node_at r 4) (float_at r 16)

abbrev pub current_of : List ℕ → Element
current_of r = I (node_at r 2) (node_at r 4) (float_at r 16)

abbrev pub voltage_of : List ℕ → Element
voltage_of r = «V» (node_at r 2) (node_at r 4) (float_at r 16) (source_at r 10)

abbrev pub diode_of : List ℕ → Element
diode_of r = D (node_at r 2) (node_at r 4) (float_at r 16) (float_at r 24)

abbrev pub isin_of : List ℕ → Element
isin_of r = Isin (node_at r 2) (node_at r 4) (float_at r 16) (float_at r 24) (float_at r 32)

abbrev pub vsin_of : List ℕ → Element
vsin_of r = Vsin (node_at r 2) (node_at r 4) (float_at r 16) (float_at r 24) (float_at r 32) (source_at r 10)

abbrev pub vpwl_of : List ℕ → Element
vpwl_of r = Vpwl (node_at r 2) (node_at r 4) (float_at r 16) (float_at r 24) (le16 r 12) (le16 r 14) (source_at r 10)

abbrev pub capacitor_of : List ℕ → Element
capacitor_of r = C (node_at r 2) (node_at r 4) (float_at r 16)

abbrev pub vcvs_of : List ℕ → Element
vcvs_of r = Vcvs (node_at r 2) (node_at r 4) (node_at r 6) (node_at r 8) (float_at r 16) (source_at r 10)

abbrev pub vccs_of : List ℕ → Element
vccs_of r = Vccs (node_at r 2) (node_at r 4) (node_at r 6) (node_at r 8) (float_at r 16)

abbrev pub inductor_of : List ℕ → Element
inductor_of r = L (node_at r 2) (node_at r 4) (float_at r 16) (source_at r 10)

-- the kind byte decides among eleven records; any other kind is refused by 6
unfoldable pub element_of : ℕ → List ℕ → Decoded
element_of kind r =
    cond (eqb kind resistor) (Ok (resistor_of r))
    (cond (eqb kind current) (Ok (current_of r))
    (cond (eqb kind voltage) (Ok (voltage_of r))
    (cond (eqb kind diode) (Ok (diode_of r))
    (cond (eqb kind isin) (Ok (isin_of r))
    (cond (eqb kind vsin) (Ok (vsin_of r))
    (cond (eqb kind vpwl) (Ok (vpwl_of r))
    (cond (eqb kind capacitor) (Ok (capacitor_of r))
    (cond (eqb kind vcvs) (Ok (vcvs_of r))
    (cond (eqb kind vccs) (Ok (vccs_of r))
    (cond (eqb kind inductor) (Ok (inductor_of r))
    (Err Refusal.Kind)))))))))))

-- what a kind uses besides its two nodes: control nodes, a source number, points, and so many floats
abbrev pub used : Bool → Bool → Bool → ℕ → Uses
used c s p f = record { controls = c; source = s; points = p; floats = f }

unfoldable pub uses_of : ℕ → Uses
uses_of kind =
    cond (eqb kind voltage) (used false true false 1)
    (cond (eqb kind diode) (used false false false 2)
    (cond (eqb kind isin) (used false false false 3)
    (cond (eqb kind vsin) (used false true false 3)
    (cond (eqb kind vpwl) (used false true true 2)
    (cond (eqb kind vcvs) (used true true false 1)
    (cond (eqb kind vccs) (used true false false 1)
    (cond (eqb kind inductor) (used false true false 1)
    (used false false false 1))))))))

-- each of the n bytes from `at` on is zero
unfoldable pub zeros : List ℕ → ℕ → ℕ → Bool
zeros r at zero = true
zeros r at (suc n) = eqb (get_or r at 0) 0 && zeros r (at + 1) n

-- byte 1 and the unused bytes are zero
unfoldable pub rest_zero : Uses → List ℕ → Bool
rest_zero u r =
    eqb (get_or r 1 0) 0
    && (u.controls || zeros r 6 4)
    && (u.source || zeros r 10 2)
    && (u.points || zeros r 12 4)
    && (leb 2 u.floats || zeros r 24 8)
    && (leb 3 u.floats || zeros r 32 8)

-- an element whose other bytes are not zero is refused by 7
abbrev pub if_zero : Bool → Decoded → Decoded
if_zero rest (Err k) = Err k
if_zero true (Ok e) = Ok e
if_zero false (Ok e) = Err Refusal.Unused

-- what a record means: the element of its kind, or 6, or 7
unfoldable pub decode_of : List ℕ → Decoded
decode_of r = if_zero (rest_zero (uses_of (get_or r 0 0)) r) (element_of (get_or r 0 0) r)

-- a record's bytes decoded as if they began with a kind
unfoldable pub decode_as : ℕ → List ℕ → Decoded
decode_as kind r = if_zero (rest_zero (uses_of kind) r) (element_of kind r)
