-- `sound::causes::told` meets its contract.
use mathlib.Core.Path.{sym, ap}
use Rattle.sound.specs.Causes.{numbers_of}
use Rattle.sound.proofs.causes.told.Goals as goal

pub returns-in-Sound : goal.returns-in-Sound
returns-in-Sound c = ap numbers_of (sym c.in-Sound.is)

pub returns-in-Own : goal.returns-in-Own
returns-in-Own c = ap numbers_of (sym c.in-Own.is)

pub returns-in-Behind : goal.returns-in-Behind
returns-in-Behind c = ap numbers_of (sym c.in-Behind.is)

pub returns-in-Unjudged : goal.returns-in-Unjudged
returns-in-Unjudged c = rw c.number.ensures (ap numbers_of (sym c.in-Unjudged.is))

pub returns-in-Rejected : goal.returns-in-Rejected
returns-in-Rejected c = ap numbers_of (sym c.in-Rejected.is)
