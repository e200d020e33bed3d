-- `sound::sound_spreads` meets its contract.
use Rattle.sound.proofs.sound_spreads.Goals as goal

pub shape_of-base : goal.shape_of-base
shape_of-base c = c.answer.auto.base

pub shape_of-system : goal.shape_of-system
shape_of-system c = c.answer.auto.system

pub shape_of-elimination : goal.shape_of-elimination
shape_of-elimination c = c.answer.auto.elimination

pub shape_of-memory : goal.shape_of-memory
shape_of-memory c = c.answer.auto.memory

pub shape_of-vectors : goal.shape_of-vectors
shape_of-vectors c = c.answer.auto.vectors

pub shape_of-causes : goal.shape_of-causes
shape_of-causes c = c.answer.auto.causes

pub shape_of-places : goal.shape_of-places
shape_of-places c = c.answer.auto.places

pub shape_of-passes : goal.shape_of-passes
shape_of-passes c = c.answer.auto.passes

pub shape_of-counts : goal.shape_of-counts
shape_of-counts c = c.answer.auto.counts

pub shape_of-plus : goal.shape_of-plus
shape_of-plus c = c.answer.auto.plus

pub shape_of-minus : goal.shape_of-minus
shape_of-minus c = c.answer.auto.minus

pub shape_of-sound_plus : goal.shape_of-sound_plus
shape_of-sound_plus c = c.answer.auto.sound_plus

pub shape_of-sound_minus : goal.shape_of-sound_minus
shape_of-sound_minus c = c.answer.auto.sound_minus
