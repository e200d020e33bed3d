-- `models::diode::Diode::situation_of` meets its contract. Assumes nothing.
use Rattle.models.specs.Situation.{situation_of}
use Rattle.models.proofs.diode.Diode.situation_of.Goals as goal

pub returns-then-absolute-self : goal.returns-then-absolute-self
unfolding situation_of
returns-then-absolute-self c = rw (← c.absolute.ensures, c.if-absolute-self.true)

pub returns-then-v_hat-v_crit : goal.returns-then-v_hat-v_crit
unfolding situation_of
returns-then-v_hat-v_crit c = rw (← c.absolute.ensures, c.if-absolute-self.false, ← c.critical_voltage-v_crit.ensures, c.if-v_hat-v_crit.true)

pub returns-then-self : goal.returns-then-self
unfolding situation_of
returns-then-self c = rw (← c.absolute.ensures, c.if-absolute-self.false, ← c.critical_voltage-v_crit.ensures, c.if-v_hat-v_crit.false, c.if-self.true)

pub returns-then-arg : goal.returns-then-arg
unfolding situation_of
returns-then-arg c = rw (← c.absolute.ensures, c.if-absolute-self.false, ← c.critical_voltage-v_crit.ensures, c.if-v_hat-v_crit.false, c.if-self.false, c.if-arg.true)

pub returns : goal.returns
unfolding situation_of
returns c = rw (← c.absolute.ensures, c.if-absolute-self.false, ← c.critical_voltage-v_crit.ensures, c.if-v_hat-v_crit.false, c.if-self.false, c.if-arg.false)
