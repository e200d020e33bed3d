-- The bench's cases a to l as one statement over a list: what the definitions of the engine, the convergence check, the models and the judge answer, against document 01's numbers.
use Rattle.std.specs.Prelude.{ℕ, zero, suc, ◌+◌, ◌*◌, ◌/◌, ◌%◌, ◌≡◌, refl, Bool, true, false, ◌&&◌, eqb, List, [], ◌∷◌, ◌++◌, map, length, replicate, set, Float}
use Rattle.std.specs.Float.Ieee as Ieee
use Rattle.std.specs.Float.{nan, binary64}
use Rattle.std.specs.Float.Ieee.{of_bits, to_bits}
use Rattle.numbers.specs.Kinds as kind
use Rattle.num.specs.Floats as floats
use Rattle.num.specs.Floats.{nought}
use Rattle.num.specs.Le as le
use Rattle.num.specs.Literals.{half, one, two, three, four, five, six, minus_half, minus_one, minus_two, tiny, huge}
use Rattle.loops.specs.Loop as loop
use Rattle.options.specs.Bench.{bench}
use Rattle.checks.specs.Checks as checks
use Rattle.sheet.specs.Check as sheet
use Rattle.sheet.specs.Range as range
use Rattle.sheet.specs.Record as bytes
use Rattle.sheet.specs.Row as row
use Rattle.sheet.specs.Sharing as sharing
use Rattle.stamps.specs.Kinds as kinds
use Rattle.stamps.specs.Write as write
use Rattle.groups.specs.Diodes as diodes
use Rattle.groups.specs.Plain as plain
use Rattle.groups.specs.Storage as storage
use Rattle.groups.specs.Records as records
use Rattle.groups.specs.Sources as sources
use Rattle.groups.specs.Stamping as stamping
use Rattle.models.specs.declared.capacitor.Companion.{Companion}
use Rattle.models.specs.declared.vpwl.Point.{Point}
use Rattle.models.specs.Capacitor as capacitor
use Rattle.models.specs.Inductor as inductor
use Rattle.models.specs.Vpwl as vpwl
use Rattle.solve.specs.Solve as solve
use Rattle.convergence.specs.Convergence as convergence
use Rattle.steps.specs.Control as control
use Rattle.steps.specs.Counters as counters
use Rattle.machine.specs.State.{buffers_of}
use Rattle.machine.specs.Machine as machine
use Rattle.passes.specs.Attempt as attempt
use Rattle.engine.specs.declared.Outcome.{Outcome}
use Rattle.engine.specs.Begin as begin
use Rattle.engine.specs.Engine as engine
use Rattle.engine.specs.Numbers as outcome
use Rattle.engine.specs.Work as work
use Rattle.exact.specs.Exact as exact
use Rattle.judge.specs.Judge as judge

abbrev pub bits : List Float → List ℕ
bits xs = map (to_bits binary64) xs

-- ---- a sheet: records of 40 bytes

-- n as so many bytes, the low one first
abbrev pub low : ℕ → ℕ → List ℕ
low zero n = []
low (suc k) n = n % 256 ∷ low k (n / 256)

-- kind, nodes, source and one float; the rest is zero
abbrev pub record_of : ℕ → ℕ → ℕ → ℕ → Float → List ℕ
record_of kind a b s x = kind ∷ 0 ∷ low 2 a ++ (low 2 b ++ (low 4 0 ++ (low 2 s ++ (low 4 0 ++ (low 8 (to_bits binary64 x) ++ low 16 0)))))

abbrev pub resistor : ℕ → ℕ → Float → List ℕ
resistor a b x = record_of kind.resistor a b 0 x

abbrev pub current : ℕ → ℕ → Float → List ℕ
current a b x = record_of kind.current a b 0 x

abbrev pub voltage : ℕ → ℕ → Float → ℕ → List ℕ
voltage a b x s = record_of kind.voltage a b s x

abbrev capacitance : ℕ → ℕ → Float → List ℕ
capacitance a b x = record_of kind.capacitor a b 0 x

-- ---- runs

-- buffers full of fives, which no answer may show
abbrev pub fives : ℕ → List Float
fives k = replicate k five

abbrev run : Bool → ℕ → ℕ → ℕ → List ℕ → engine.Result
run transient itl1 nodes srcs s =
    let n = nodes + srcs in
    let m = fives (n * (n + 1)) in
    let y = fives (length s / bytes.record_bytes) in
    let w = fives (4 * (n + 1)) in
    engine.run_of (engine.call_of (bench itl1) transient nodes srcs s [] m (buffers_of m m (fives n) y w))

-- verdict (or refusal), DC verdict, passes and rows
abbrev pub told : Outcome → List ℕ
told r = let t = outcome.numbers_of r in outcome.number_of r ∷ t.dc ∷ t.passes ∷ t.rows ∷ []

-- a DC run: what is told, and the vector
abbrev dc : ℕ → ℕ → ℕ → List ℕ → List ℕ
dc itl1 nodes srcs s = let r = run false itl1 nodes srcs s in told r.outcome ++ bits r.buffers.vector

-- a transient: what is told, and the rows
abbrev transient : ℕ → ℕ → ℕ → List ℕ → List ℕ
transient itl1 nodes srcs s = let r = run true itl1 nodes srcs s in told r.outcome ++ bits r.buffers.rows

abbrev divider : List ℕ
divider = voltage 1 0 four 0 ++ (resistor 1 2 one ++ resistor 2 0 one)

-- ---- the parts

abbrev agreed : List Float → List Float → List ℕ
agreed x y = convergence.number_of (convergence.convergence_of x y 2 (bench 10)) ∷ []

abbrev point : Float → Float → Point
point t v = record { time = t; level = v }

abbrev level : Float → Float → List ℕ
level v t = to_bits binary64 (vpwl.pattern_at (point nought v ∷ point one four ∷ []) nought minus_one t) ∷ []

abbrev companion : Companion → List ℕ
companion c = to_bits binary64 c.g ∷ to_bits binary64 c.i ∷ []

abbrev judged : ℕ → List Float → List Float → Float → List ℕ
judged n m x t = let r = judge.numbers_of n (judge.judge_of n m x (replicate n t)) in r.refusal ∷ r.row ∷ []

-- the judge on case b: tolerances 0; the last unknown -1, with 0.5 and with 1
abbrev on_divider : List ℕ
on_divider =
    let r = run false 10 3 1 divider in
    let v = set r.buffers.vector 3 minus_one in
    judged 4 r.buffers.system r.buffers.vector nought ++ (judged 4 r.buffers.system v half ++ judged 4 r.buffers.system v one)

-- row 1: coefficients 0, 2^-1000, 2^1000, 2^1000; all else 0
abbrev tiny_row : List Float
tiny_row = replicate 5 nought ++ (nought ∷ tiny ∷ huge ∷ huge ∷ replicate 11 nought)

-- ---- the cases: what is computed, and what document 01 says

pub record Case : Type 0 where
  pub answer : List ℕ
  pub expected : List ℕ

abbrev pub case : List ℕ → List ℕ → Case
case a e = record { answer = a; expected = e }

abbrev pub equal : List ℕ → List ℕ → Bool
equal [] [] = true
equal [] (y ∷ ys) = false
equal (x ∷ xs) [] = false
equal (x ∷ xs) (y ∷ ys) = eqb x y && equal xs ys

abbrev pub all : List Case → Bool
all [] = true
all (c ∷ cs) = equal c.answer c.expected && all cs

abbrev cases : List Case
cases =
    -- a: two passes; ITL1 = 0: one pass, verdict 20
    case (dc 10 2 0 (current 0 1 two ++ resistor 1 0 half)) (0 ∷ 0 ∷ 2 ∷ 0 ∷ bits (nought ∷ one ∷ []))
    ∷ case (dc 0 2 0 (current 0 1 two ++ resistor 1 0 half)) (20 ∷ 20 ∷ 1 ∷ 0 ∷ bits (nought ∷ one ∷ []))
    -- b: 0, 4, 2, -2
    ∷ case (dc 10 3 1 divider) (0 ∷ 0 ∷ 2 ∷ 0 ∷ bits (nought ∷ four ∷ two ∷ minus_two ∷ []))
    -- c: one pass
    ∷ case (dc 10 1 1 (voltage 0 0 five 0)) (0 ∷ 0 ∷ 1 ∷ 0 ∷ bits (nought ∷ nought ∷ []))
    -- d: zeros, settled
    ∷ case (dc 10 3 0 (resistor 1 2 one)) (0 ∷ 0 ∷ 1 ∷ 0 ∷ bits (nought ∷ nought ∷ nought ∷ []))
    -- e: pass one says no, pass two verdict 21
    ∷ case (told (run false 10 3 0 (resistor 2 0 one ++ current 0 2 one)).outcome) (21 ∷ 21 ∷ 2 ∷ 0 ∷ [])
    -- f: no, error, yes
    ∷ case (agreed (nan ∷ five ∷ []) (nought ∷ nought ∷ [])) (1 ∷ [])
    ∷ case (agreed (five ∷ nan ∷ []) (nought ∷ nought ∷ [])) (2 ∷ [])
    ∷ case (agreed (nought ∷ one ∷ []) (nought ∷ nan ∷ [])) (0 ∷ [])
    -- g: 2, 0, 4, 0
    ∷ case (level nought half ++ (level nought one ++ (level nought two ++ level nought minus_half))) (bits (two ∷ nought ∷ four ∷ nought ∷ []))
    -- h: NaN
    ∷ case (level three nought) (bits (nan ∷ []))
    -- i: g 2, i 6
    ∷ case (companion (capacitor.companion_of one three half)) (bits (two ∷ six ∷ []))
    -- j: node 1 is 1, 0.5, 0.75, 0.875 at times 0, 1, 2, 2; eight passes
    ∷ case (transient 10 2 0 (resistor 1 0 one ++ (capacitance 1 0 one ++ current 0 1 one)))
    (0 ∷ 0 ∷ 8 ∷ 4 ∷ bits (nought ∷ nought ∷ one ∷ one ∷ nought ∷ half ∷ two ∷ nought ∷ of_bits binary64 0x3FE8000000000000 ∷ two ∷ nought ∷ of_bits binary64 0x3FEC000000000000 ∷ []))
    -- k: accepted; row 1; accepted
    ∷ case on_divider (0 ∷ 4 ∷ 0 ∷ 1 ∷ 0 ∷ 4 ∷ [])
    -- l: row 1
    ∷ case (judged 4 tiny_row (nought ∷ one ∷ one ∷ minus_one ∷ []) nought) (0 ∷ 1 ∷ [])
    ∷ []

-- every case's answer is the document's
answers : all cases ≡ true
unfolding floats.absolute_of le.le32 le.le64 le.float_at loop.copied loop.row_at checks.bad_order checks.bad_counts checks.bad_room checks.sizes_fault checks.sizes_refusal checks.checked_of sharing.shares sharing.none_shares sheet.check_from sheet.bad_sheet sheet.bad_points range.nodes_of range.sources_of range.points_of range.nodes_fit range.sources_fit range.points_fit range.element_fault bytes.record_at bytes.element_of bytes.uses_of bytes.zeros bytes.rest_zero bytes.decode_of row.row_of kinds.current_writes kinds.conductance_writes kinds.voltage_writes kinds.vcvs_writes kinds.vccs_writes kinds.capacitor_writes kinds.inductor_writes kinds.diode_writes write.written write.stamped diodes.biased diodes.biased_at diodes.diodes_of plain.base_writes plain.dependent_writes plain.based_on plain.dependent_of storage.capacitor_in storage.inductor_in storage.storage_writes storage.storage_of storage.current_in storage.with_current storage.taken_of records.writes_of sources.driven sources.driven_at sources.independent_of stamping.base_of stamping.completed stamping.linear_of stamping.stamp_of capacitor.companion_of inductor.conductance_of inductor.current_after vpwl.last_of vpwl.between vpwl.or_zero vpwl.level_on vpwl.level_at vpwl.pattern_at solve.index_of_next_abs solve.swapped solve.less_scaled solve.reduced solve.cleared solve.column solve.eliminated solve.dot solve.unknown solve.last_unknown solve.substituted solve.solution convergence.limit convergence.place convergence.checked convergence.convergence_of control.waited control.dc_over control.dc_after control.moved control.eased control.shortened control.step_after counters.next counters.verdict_of counters.dc_verdict_of machine.compared machine.tried machine.takes machine.took machine.written_by machine.landed machine.dc_pass machine.step_pass machine.pass machine.run_for attempt.attempt_of begin.forgotten engine.run_of engine.ending_of engine.refused_of work.end_of exact.units judge.total judge.residual judge.named judge.judge_refusal judge.judge_of Ieee.of_bits Ieee.to_bits Ieee.add Ieee.sub Ieee.mul Ieee.div Ieee.rem Ieee.lt Ieee.le Ieee.eq Ieee.is_nan
answers = refl
