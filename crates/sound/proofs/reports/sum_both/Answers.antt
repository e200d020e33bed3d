-- `sound::reports::sum_both` meets its contract.
use mathlib.Core.Path.{sym}
use lib.Seq.{length-take-le}
use Rattle.sound.proofs.Sums.{both_made}
use Rattle.sound.proofs.reports.sum_both.Goals as goal

pub slice_bounds-sum_up-end-2 : goal.slice_bounds-sum_up-end-2
slice_bounds-sum_up-end-2 c = sym (length-take-le 66 c.args.plus.now c.requires.2)

pub slice_bounds-sum_up-end-4 : goal.slice_bounds-sum_up-end-4
slice_bounds-sum_up-end-4 c = sym (length-take-le 66 c.args.minus.now c.requires.3)

pub slice_bounds-sum_up-end-6 : goal.slice_bounds-sum_up-end-6
slice_bounds-sum_up-end-6 c = sym (length-take-le 66 c.args.sound_plus.now c.requires.4)

pub slice_bounds-sum_up-end-8 : goal.slice_bounds-sum_up-end-8
slice_bounds-sum_up-end-8 c = sym (length-take-le 66 c.args.sound_minus.now c.requires.5)

pub returns : goal.returns
returns c =
    let a = c.args in
    both_made a.jobs a.n a.unknown a.numbers.now a.causes.now a.vectors.now _ _ a.plus.now a.minus.now a.sound_plus.now a.sound_minus.now _ _ _ _ c.requires.0 c.requires.1 c.requires.2 c.requires.3 c.requires.4 c.requires.5
    c.sum_up-settled.ensures c.sum_up-sound.ensures
