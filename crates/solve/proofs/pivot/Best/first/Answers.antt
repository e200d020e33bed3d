-- `solve::pivot::Best::first` meets its contract. Assumes nothing.
use Rattle.std.proofs.Common.{arith}
use Rattle.std.proofs.lemmas.Bool.Decides.{nat_tests}
use Rattle.solve.specs.Inner.{first_of}
use Rattle.solve.proofs.pivot.Best.first.Goals as goal

pub returns-then-self-other : goal.returns-then-self-other
unfolding first_of
returns-then-self-other c = rw c.if-self-other.true

pub returns-then-other-self : goal.returns-then-other-self
unfolding first_of
returns-then-other-self c = rw (c.if-self-other.false, c.if-other-self.true)

pub returns : goal.returns
unfolding first_of
returns c = rw (c.if-self-other.false, c.if-other-self.false) (grind (arith, nat_tests))
