-- `models::diode::Diode::limited_in` meets its contract. Assumes nothing.
use Rattle.models.specs.Situation.{limited_in}
use Rattle.models.proofs.diode.Diode.limited_in.Goals as goal

pub returns-in-SmallStep : goal.returns-in-SmallStep
unfolding limited_in
returns-in-SmallStep c = rw c.in-SmallStep.is

pub returns-in-BelowCritical : goal.returns-in-BelowCritical
unfolding limited_in
returns-in-BelowCritical c = rw c.in-BelowCritical.is

pub returns-in-TurnOn : goal.returns-in-TurnOn
unfolding limited_in
returns-in-TurnOn c = rw (c.in-TurnOn.is, c.ln.ensures)

pub returns-in-FallBack : goal.returns-in-FallBack
unfolding limited_in
returns-in-FallBack c = rw c.in-FallBack.is

pub returns-in-Climb : goal.returns-in-Climb
unfolding limited_in
returns-in-Climb c = rw (c.in-Climb.is, c.ln-in-Climb.ensures)
