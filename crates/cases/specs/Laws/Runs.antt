-- The worked runs of a ramp (Ramp) and of inductors (Inductor), computed from the definitions: one statement over both lists.
use Rattle.std.specs.Prelude.{◌≡◌, refl, true, ◌++◌}
use Rattle.std.specs.Float.Ieee as Ieee
use Rattle.passes.specs.Attempt as attempt
use Rattle.engine.specs.Begin as begin
use Rattle.sheet.specs.Record as bytes
use Rattle.models.specs.Capacitor as capacitor
use Rattle.checks.specs.Checks as checks
use Rattle.steps.specs.Control as control
use Rattle.convergence.specs.Convergence as convergence
use Rattle.steps.specs.Counters as counters
use Rattle.groups.specs.Diodes as diodes
use Rattle.engine.specs.Engine as engine
use Rattle.num.specs.Floats as floats
use Rattle.models.specs.Inductor as inductor
use Rattle.stamps.specs.Kinds as kinds
use Rattle.num.specs.Le as le
use Rattle.loops.specs.Loop as loop
use Rattle.machine.specs.Machine as machine
use Rattle.groups.specs.Plain as plain
use Rattle.sheet.specs.Range as range
use Rattle.groups.specs.Records as records
use Rattle.sheet.specs.Row as row
use Rattle.sheet.specs.Sharing as sharing
use Rattle.sheet.specs.Check as sheet
use Rattle.solve.specs.Solve as solve
use Rattle.groups.specs.Sources as sources
use Rattle.groups.specs.Stamping as stamping
use Rattle.groups.specs.Storage as storage
use Rattle.models.specs.Vpwl as vpwl
use Rattle.engine.specs.Work as work
use Rattle.stamps.specs.Write as write
use Rattle.cases.specs.Laws.Cases.{all}
use Rattle.cases.specs.Laws.Ramp as ramp
use Rattle.cases.specs.Laws.Inductor as choke

-- every run's answer is the one beside it
answers : all (ramp.cases ++ choke.cases) ≡ true
unfolding floats.absolute_of le.le32 le.le64 le.float_at loop.copied loop.row_at checks.bad_order checks.bad_counts checks.bad_room checks.sizes_fault checks.sizes_refusal checks.checked_of sharing.shares sharing.none_shares sheet.check_from sheet.bad_sheet sheet.bad_points range.nodes_of range.sources_of range.points_of range.nodes_fit range.sources_fit range.points_fit range.element_fault bytes.record_at bytes.element_of bytes.uses_of bytes.zeros bytes.rest_zero bytes.decode_of row.row_of kinds.current_writes kinds.conductance_writes kinds.voltage_writes kinds.vcvs_writes kinds.vccs_writes kinds.capacitor_writes kinds.inductor_writes kinds.diode_writes write.written write.stamped diodes.biased diodes.biased_at diodes.diodes_of plain.base_writes plain.dependent_writes plain.based_on plain.dependent_of storage.capacitor_in storage.inductor_in storage.storage_writes storage.storage_of storage.current_in storage.with_current storage.taken_of records.writes_of sources.driven sources.driven_at sources.independent_of stamping.base_of stamping.completed stamping.linear_of stamping.stamp_of capacitor.companion_of inductor.conductance_of inductor.current_after vpwl.last_of vpwl.between vpwl.or_zero vpwl.level_on vpwl.level_at vpwl.pattern_at vpwl.point_at vpwl.points_from vpwl.pattern_first_at vpwl.pattern_of solve.index_of_next_abs solve.swapped solve.less_scaled solve.reduced solve.cleared solve.column solve.eliminated solve.dot solve.unknown solve.last_unknown solve.substituted solve.solution convergence.limit convergence.place convergence.checked convergence.convergence_of control.waited control.dc_over control.dc_after control.moved control.eased control.shortened control.step_after counters.next counters.verdict_of counters.dc_verdict_of machine.compared machine.tried machine.takes machine.took machine.written_by machine.landed machine.dc_pass machine.step_pass machine.pass machine.run_for attempt.attempt_of begin.forgotten engine.run_of engine.ending_of engine.refused_of work.end_of Ieee.of_bits Ieee.to_bits Ieee.add Ieee.sub Ieee.mul Ieee.div Ieee.rem Ieee.lt Ieee.le Ieee.eq Ieee.is_nan Ieee.neg
answers = refl
