-- The control: what the report of a pass makes of the counters. To be held beside the Rust's `dc_solve` and `transient_analysis`.
use Rattle.std.specs.Prelude.{ℕ, Bool, true, false, cond, not, eqb, ltb, leb, Float}
use Rattle.std.specs.Float.Ieee as Ieee
use Rattle.std.specs.Float.{binary64}
use Rattle.num.specs.Floats.{nought}
use Rattle.num.specs.Literals.{two}
use Rattle.options.specs.declared.Options.{Options}
use Rattle.options.specs.Switch.{on}
use Rattle.convergence.specs.declared.Convergence.{Convergence}
use Rattle.convergence.specs.declared.Convergence.TheVariants as check
use Rattle.steps.specs.declared.Counters.{Counters}
use Rattle.steps.specs.declared.Report.{Report}
use Rattle.steps.specs.declared.Report.TheVariants.{Yes, No, Error, Diode, Sine}
use Rattle.numbers.specs.declared.verdict.Verdict.{Verdict}
use Rattle.numbers.specs.declared.verdict.Verdict.TheVariants.{Settled, PassesUsed, Diverged, DiodeCurrent, StepTooSmall, SineRefused}
use Rattle.steps.specs.Counters.{counted, ended, with_dc, begun, anew, again, with_step, with_time}

-- the report of a solved pass. A run's two vectors are equally long, so that the check never refuses there.
abbrev pub report_of : Convergence → Report
report_of check.Yes = Yes
report_of check.No = No
report_of check.Error = Error
report_of check.Refused = Error

-- the report of a pass that was solved
abbrev pub solved : Report → Bool
solved Yes = true
solved No = true
solved Error = true
solved Diode = false
solved Sine = false

-- a pass that would say "yes" says "no" while a diode is behind, where the options say so; every other report stays. `behind` is 0 where none is.
unfoldable pub waited : Options → ℕ → Report → Report
waited o behind Yes = cond (on o.catchup) (cond (eqb behind 0) Yes No) Yes
waited o behind No = No
waited o behind Error = Error
waited o behind Diode = Diode
waited o behind Sine = Sine

-- ---- DC

-- DC ends with v, and so does the run
abbrev pub failed : Verdict → Counters → Counters
failed v c = ended v (with_dc v c)

-- DC is over with the verdict v. A DC run ends with it; a transient goes on, after 20 and 21 too, from time 0 with the step TSTEP * FS.
unfoldable pub dc_over : Options → Bool → Verdict → Counters → Counters
dc_over o transient v c =
    cond transient
    (anew (begun (Ieee.mul binary64 o.tstep o.fs) (with_dc v c)))
    (failed v c)

-- DC: at most ITL1 + 1 passes. After 22 and 26 a transient ends too.
unfoldable pub dc_after : Options → Bool → Report → Counters → Counters
dc_after o transient Yes c = dc_over o transient Settled (counted c)
dc_after o transient No c = cond (ltb o.itl1 (counted c).count) (dc_over o transient PassesUsed (counted c)) (counted c)
dc_after o transient Error c = dc_over o transient Diverged (counted c)
dc_after o transient Diode c = failed DiodeCurrent c
dc_after o transient Sine c = failed SineRefused c

-- ---- transient

-- time moves by the step as it now is; time past TSTOP becomes TSTOP and is the last: settled, unless what follows says otherwise
unfoldable pub moved : Options → Counters → Counters
moved o c =
    let t = Ieee.add binary64 c.time c.step in
    cond (Ieee.lt o.tstop t) (ended Settled (with_time o.tstop c)) (with_time t c)

-- twice the step, at most TSTEP * RMAX
abbrev pub doubled : Options → Float → Float
doubled o step =
    let d = Ieee.mul binary64 step two in
    let most = Ieee.mul binary64 o.tstep o.rmax in
    cond (Ieee.lt most d) most d

-- after easy convergence, no cut and fewer than ITL3 passes, the step is doubled
unfoldable pub eased : Options → Counters → Counters
eased o c = cond c.cut c (cond (ltb c.count o.itl3) (with_step (doubled o c.step) c) c)

-- the step is cut by FT; below TSTEP * RMIN that is 23, and time moves by the cut step
unfoldable pub shortened : Options → Counters → Counters
shortened o c =
    let d = Ieee.mul binary64 c.step o.ft in
    cond (Ieee.lt d (Ieee.mul binary64 o.tstep o.rmin))
    (ended StepTooSmall (moved o (with_step d c)))
    (again (with_step d c))

-- a step: accepted, the next begins; at the ITL4th pass that says no it is cut; after 21 time moves too, after 22 and 26 it stands
unfoldable pub step_after : Options → Report → Counters → Counters
step_after o Yes c = anew (moved o (eased o (counted c)))
step_after o No c = cond (leb o.itl4 (counted c).count) (shortened o (counted c)) (counted c)
step_after o Error c = ended Diverged (moved o (counted c))
step_after o Diode c = ended DiodeCurrent c
step_after o Sine c = ended SineRefused c

-- a time gets a row if it is at or above TSTART and not 0
abbrev pub row_due : Options → Float → Bool
row_due o t = cond (Ieee.le o.tstart t) (not (Ieee.eq t nought)) false
