-- The smallest circuit that settles falsely, computed: 5 V, 1 kOhm and a diode. With the option `catchup` off it is settled in two passes at 4.99998 V, and its diode is behind; so nothing of what
-- the option promises can be promised without it. With it on it settles in seven passes at 0.744745 V, and none is behind. Assumes nothing.
use Rattle.std.specs.Prelude.{ℕ, ◌+◌, ◌*◌, ◌≡◌, refl, true, false, List, [], ◌∷◌, ◌++◌, Float}
use Rattle.std.specs.Int.Count.{count_leading_zeros}
use Rattle.std.specs.Float.Ieee as Ieee
use Rattle.std.specs.Float.{binary64}
use Rattle.std.specs.Float.Ieee.{of_bits, to_bits}
use Rattle.numbers.specs.Kinds as kind
use Rattle.num.specs.Floats as floats
use Rattle.num.specs.Floats.{nought}
use Rattle.num.specs.Le as le
use Rattle.num.specs.Literals.{five}
use Rattle.loops.specs.Loop as loop
use Rattle.options.specs.declared.Options.{Options}
use Rattle.functions.specs.Reduction as reduction
use Rattle.functions.specs.Words as words
use Rattle.functions.specs.Exp as exp
use Rattle.functions.specs.Ln as ln
use Rattle.models.specs.Diode as diode
use Rattle.checks.specs.Checks as checks
use Rattle.sheet.specs.Check as sheet
use Rattle.sheet.specs.Range as range
use Rattle.sheet.specs.Record as bytes
use Rattle.sheet.specs.Row as row
use Rattle.sheet.specs.Sharing as sharing
use Rattle.stamps.specs.Kinds as kinds
use Rattle.stamps.specs.Write as write
use Rattle.groups.specs.Diodes as diodes
use Rattle.groups.specs.Plain as plain
use Rattle.groups.specs.Storage as storage
use Rattle.groups.specs.Records as records
use Rattle.groups.specs.Sources as sources
use Rattle.groups.specs.Stamping as stamping
use Rattle.solve.specs.Solve as solve
use Rattle.convergence.specs.Convergence as convergence
use Rattle.behind.specs.Behind as behind
use Rattle.steps.specs.Control as control
use Rattle.steps.specs.Counters as counters
use Rattle.machine.specs.State.{buffers_of}
use Rattle.machine.specs.Machine as machine
use Rattle.passes.specs.Attempt as attempt
use Rattle.engine.specs.Begin as begin
use Rattle.engine.specs.Engine as engine
use Rattle.engine.specs.Numbers as outcome
use Rattle.engine.specs.Work as work
use Rattle.cases.specs.Laws.Cases.{bits, low, record_of, resistor, voltage, fives, Case, case, equal, all}

-- document 01's bench tolerances (RELTOL 0.001, VNTOL = ABSTOL = 0.000001), the Rust's constants, ITL1 100; the switch as given
abbrev tolerances : ℕ → Options
tolerances w =
    record {
      reltol = of_bits binary64 0x3F50624DD2F1A9FC;
      vntol = of_bits binary64 0x3EB0C6F7A0B5ED8D;
      abstol = of_bits binary64 0x3EB0C6F7A0B5ED8D;
      tstart = nought;
      tstop = nought;
      tstep = nought;
      fs = nought;
      ft = nought;
      rmin = nought;
      rmax = nought;
      gmin = of_bits binary64 0x3D719799812DEA11;
      boltzmann = of_bits binary64 0x3B30B0E6ACCDCC7E;
      charge = of_bits binary64 0x3C07A7F678984AE7;
      itl1 = 100;
      itl3 = 0;
      itl4 = 0;
      budget = 1000;
      catchup = w;
      pattern_first = 0;
    }

-- a diode of 1e-12 A at 27 degrees
abbrev junction : ℕ → ℕ → List ℕ
junction a b = kind.diode ∷ 0 ∷ low 2 a ++ (low 2 b ++ (low 10 0 ++ (low 8 0x3D719799812DEA11 ++ (low 8 0x403B000000000000 ++ low 8 0))))

abbrev circuit : List ℕ
circuit = voltage 1 0 five 0 ++ (resistor 1 2 (of_bits binary64 0x408F400000000000) ++ junction 2 0)

-- its DC run: verdict, passes, the first diode behind (1 and its record's place), the vector and the diode's memory
abbrev told : ℕ → List ℕ
told w =
    let m = fives 20 in
    let r = engine.run_of (engine.call_of (tolerances w) false 3 1 circuit [] m (buffers_of m m (fives 4) (fives 3) [])) in
    let t = outcome.numbers_of r.outcome in
    outcome.number_of r.outcome ∷ t.passes ∷ t.behind ∷ bits r.buffers.vector ++ bits r.buffers.memory

abbrev cases : List Case
cases =
    case (told 0) (0 ∷ 2 ∷ 3 ∷ 0 ∷ 0x4014000000000000 ∷ 0x4013FFFA5920B201 ∷ 0xBE5726638D480000 ∷ 0x4014000000000000 ∷ 0x4014000000000000 ∷ 0x3FC582B145D14087 ∷ [])
    ∷ case (told 1) (0 ∷ 7 ∷ 0 ∷ 0 ∷ 0x4014000000000000 ∷ 0x3FE7D4F463CFBB35 ∷ 0xBF716DF532B64E70 ∷ 0x4014000000000000 ∷ 0x4014000000000000 ∷ 0x3FE7D5722BBF5B9D ∷ [])
    ∷ []

answers : all cases ≡ true
unfolding floats.absolute_of le.le32 le.le64 le.float_at loop.copied checks.bad_order checks.bad_counts checks.bad_room checks.sizes_fault checks.sizes_refusal checks.checked_of sharing.shares sharing.none_shares sheet.check_from sheet.bad_sheet sheet.bad_points range.nodes_of range.sources_of range.points_of range.nodes_fit range.sources_fit range.points_fit range.element_fault bytes.record_at bytes.element_of bytes.uses_of bytes.zeros bytes.rest_zero bytes.decode_of row.row_of kinds.current_writes kinds.conductance_writes kinds.voltage_writes kinds.diode_writes write.written write.stamped diodes.biased diodes.biased_at diodes.diodes_of plain.base_writes plain.dependent_writes plain.based_on plain.dependent_of storage.capacitor_in storage.inductor_in storage.storage_writes storage.storage_of storage.current_in storage.with_current storage.taken_of records.writes_of records.record_in sources.driven sources.driven_at sources.independent_of stamping.base_of stamping.completed stamping.linear_of stamping.stamp_of diode.thermal diode.critical diode.limited diode.floored diode.model_at diode.linearized reduction.nearest_of reduction.left_of reduction.below_of words.horner words.packed words.rounded exp.fixed_exp exp.exp_size exp.exp_of ln.ln_word ln.z_word ln.ln_size ln.ln_answer ln.ln_positive ln.ln_of solve.index_of_next_abs solve.swapped solve.less_scaled solve.reduced solve.cleared solve.column solve.eliminated solve.dot solve.unknown solve.last_unknown solve.substituted solve.solution convergence.limit convergence.place convergence.checked convergence.convergence_of behind.caught_up_of behind.diode_behind behind.behind_at behind.first_from behind.first_in behind.behind_number control.waited control.dc_over control.dc_after counters.next counters.verdict_of counters.dc_verdict_of machine.compared machine.tried machine.takes machine.took machine.written_by machine.dc_pass machine.pass machine.run_for attempt.attempt_of begin.forgotten engine.run_of engine.ending_of work.end_of Ieee.of_bits Ieee.to_bits Ieee.add Ieee.sub Ieee.mul Ieee.div Ieee.lt Ieee.le Ieee.eq Ieee.is_nan count_leading_zeros
answers = refl
