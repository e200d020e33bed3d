-- The run as a machine of passes. `f` stamps and solves: it is the machine's one parameter. A pass leaves an ended run alone, and the run of a budget
-- is so many passes; 24 is not in the machine, but how counters read that are still going when the budget ends (`verdict_of`). An inductor's current moves only
-- where a vector is taken (`takes`): where DC is over by a solved pass, and where a step is accepted.
use Rattle.std.specs.Prelude.{ℕ, zero, suc, ◌+◌, ◌*◌, ◌/◌, Bool, true, false, cond, not, ◌&&◌, List, [], ◌∷◌, eqb, ltb, length, Float}
use Rattle.loops.specs.Loop.{copied, zeros_like, row_at}
use Rattle.options.specs.declared.Options.{Options}
use Rattle.convergence.specs.Convergence.{convergence_of}
use Rattle.steps.specs.declared.Counters.{Counters}
use Rattle.steps.specs.declared.Job.{Job}
use Rattle.steps.specs.declared.Report.{Report}
use Rattle.steps.specs.declared.Report.TheVariants.{Yes, No, Error, Diode, Sine}
use Rattle.numbers.specs.Verdicts.{diode_current}
use Rattle.numbers.specs.declared.verdict.Verdict.TheVariants.{NoRoom}
use Rattle.steps.specs.Phases.{is_dc, is_transient}
use Rattle.steps.specs.Counters.{ended, written}
use Rattle.steps.specs.Control.{report_of, solved, waited, dc_after, step_after, row_due}
use Rattle.machine.specs.State.{Buffers, buffers_of, State, state_of, Attempt, Tried, tried_of, Written, written_of}

-- ---- stamp, solve, compare

-- what the new vector is compared with: zeros in the first pass of DC or of a step, else the last solved vector
abbrev pub before : Bool → List Float → List Float
before first v = cond first (zeros_like v) v

-- a stamp that failed reports its own failure, and else the convergence check speaks
abbrev pub reported : ℕ → Report → Report
reported fault check = cond (eqb fault 0) check (cond (eqb fault diode_current) Diode Sine)

-- what comparing alone makes of an attempt
unfoldable pub compared : Attempt → Job → Counters → List Float → Buffers → Tried
compared f j c accepted x =
    let a = f c accepted x in
    tried_of
    (reported a.fault (report_of (convergence_of a.vector (before c.first x.vector) j.nodes j.options)))
    a.system
    a.vector
    a.memory

-- the attempt with its report: "yes" may have to wait for a diode that is behind
unfoldable pub tried : Attempt → Job → Counters → List Float → Buffers → Tried
tried f j c accepted x =
    let t = compared f j c accepted x in
    tried_of (waited j.options (f c accepted x).behind t.report) t.system t.vector t.memory

-- ---- where a vector is taken

-- a step is accepted by "yes" alone
abbrev pub accepts : Report → Bool
accepts Yes = true
accepts No = false
accepts Error = false
accepts Diode = false
accepts Sine = false

-- whether the vector of a pass is taken: DC's when DC is over by a solved pass (0, 20 or 21), a step's when it is accepted
unfoldable pub takes : Job → Counters → Report → Bool
takes j c r =
    cond (is_dc c.phase)
    (solved r && not (is_dc (dc_after j.options j.transient r c).phase))
    (accepts r)

-- the attempt with its report, and where its vector is taken the inductors have taken their currents
unfoldable pub took : Attempt → Job → Counters → List Float → Buffers → Tried
took f j c accepted x =
    let t = tried f j c accepted x in
    tried_of t.report t.system t.vector (cond (takes j c t.report) (f c accepted x).taken t.memory)

abbrev pub tried_by : Attempt → Job → State → Tried
tried_by f j s = took f j s.counters s.accepted s.buffers

-- ---- rows: a row is time, then N numbers

-- the next row in its place; without room for a whole row 25
unfoldable pub written_by : Counters → List Float → List Float → Written
written_by c v rows =
    let w = length v + 1 in
    cond (ltb c.rows (length rows / w))
    (written_of (written c) (row_at (c.rows * w) c.time v rows))
    (written_of (ended NoRoom c) rows)

-- a later time gets a row only if one is due
unfoldable pub landed : Options → Counters → List Float → List Float → Written
landed o c v rows = cond (row_due o c.time) (written_by c v rows) (written_of c rows)

-- ---- one pass

-- the state after a pass from the state s: what is accepted, what was tried, what was written
abbrev pub after : State → List Float → Tried → Written → State
after s accepted t w = state_of w.counters accepted (buffers_of s.buffers.base t.system t.vector t.memory w.rows)

-- DC: where the transient begins, the first row is the DC vector at 0
unfoldable pub dc_pass : Attempt → Job → State → State
dc_pass f j s =
    let t = tried_by f j s in
    let c = dc_after j.options j.transient t.report s.counters in
    after s s.accepted t (cond (is_transient c.phase) (written_by c t.vector s.buffers.rows) (written_of c s.buffers.rows))

-- the accepted vector a after a pass that leaves v: a step that is accepted puts v in its place, and DC accepts none
unfoldable pub accepted_by : Report → Counters → List Float → List Float → List Float
accepted_by r c a v = cond (is_dc c.phase) a (cond (accepts r) (copied v a) a)

-- transient: where a step is accepted, its vector is kept, and the new time may get a row
unfoldable pub step_pass : Attempt → Job → State → State
step_pass f j s =
    let t = tried_by f j s in
    let c = step_after j.options t.report s.counters in
    cond (accepts t.report)
    (after s t.vector t (landed j.options c t.vector s.buffers.rows))
    (after s s.accepted t (written_of c s.buffers.rows))

-- one unit of budget: a pass of DC or of the transient; an ended run stays as it is
unfoldable pub pass : Attempt → Job → State → State
pass f j s =
    cond (is_dc s.counters.phase) (dc_pass f j s)
    (cond (is_transient s.counters.phase) (step_pass f j s)
    s)

-- ---- the run of a budget

unfoldable pub run_for : Attempt → Job → ℕ → State → State
run_for f j zero s = s
run_for f j (suc n) s = run_for f j n (pass f j s)

-- one budget after the other
abbrev pub run_all : Attempt → Job → List ℕ → State → State
run_all f j [] s = s
run_all f j (b ∷ bs) s = run_all f j bs (run_for f j b s)
