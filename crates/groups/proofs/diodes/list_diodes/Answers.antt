-- `groups::diodes::list_diodes` meets its contract: the invariant says that the diodes among the records passed are at the front. Assumes nothing.
use mathlib.Core.Path.{refl, sym, ◌∙◌}
use native.Mathlib.Nat.{le_antisymm}
use native.Mathlib.Omega.{arith}
use lib.ListN.{length-set}
use Rattle.groups.specs.Listed.{diodes_among, diode_places}
use Rattle.groups.specs.Laws.Listed.{walk_found, walk_passed}
use Rattle.groups.proofs.diodes.list_diodes.Goals as goal
use Rattle.groups.proofs.diodes.list_diodes.Goals.{then-diode_in, else-diode_in}

pub loop-i-init : goal.loop-i-init
unfolding diodes_among
loop-i-init c = (omega arith, omega arith, omega arith, omega arith, refl, refl)

pub loop-i-preserved : goal.loop-i-preserved
loop-i-preserved c =
    let l = c.loop-i in
    let sheet = c.args.sheet.now in
    let test = c.diode_in.ensures in
    let list = c.args.places.now in
    elim c.if-diode_in.branch [
      | then-diode_in w ↦ (
        omega arith,
        rw w.found-is (omega arith),
        l.invariant.2,
        l.invariant.3,
        rw w.places-is (simp length-set l.invariant.4),
        rw (w.found-is, w.places-is) (walk_found sheet list l.i l.found l.places l.invariant.5 (sym test ∙ w.if-diode_in.true) (omega arith)),
      )
      | else-diode_in w ↦ (
        omega arith,
        rw w.found-is (omega arith),
        l.invariant.2,
        l.invariant.3,
        rw w.places-is l.invariant.4,
        rw (w.found-is, w.places-is) (walk_passed sheet list l.i l.found l.places l.invariant.5 (sym test ∙ w.if-diode_in.false)),
      )
    ]

pub returns : goal.returns
unfolding diode_places
returns c =
    let l = c.loop-i in
    rw (← c.records.ensures, ← c.min.ensures, ← c.min-count.ensures, le_antisymm c.loop-i-test.false l.invariant.0) l.invariant.5
