-- `decimal::shortest::up_first` meets its contract.
use borrow.Author.Tests.{eq-eqb, ne_eqb}
use Rattle.decimal.specs.Shortest.{up_first}
use Rattle.decimal.proofs.Digits.{twice_rest}
use Rattle.decimal.proofs.shortest.up_first.Goals as goal

pub overflow_mul-rest : goal.overflow_mul-rest
overflow_mul-rest c = record { fits = twice_rest _ _ c.requires.1 c.requires.2 }

pub returns-then-s : goal.returns-then-s
unfolding up_first
returns-then-s c = rw (eq-eqb _ _ c.if-rest-t.true, c.if-s.true)

pub returns-then-rest-t : goal.returns-then-rest-t
unfolding up_first
returns-then-rest-t c = rw (eq-eqb _ _ c.if-rest-t.true, c.if-s.false)

pub overflow_mul-result : goal.overflow_mul-result
overflow_mul-result c = record { fits = twice_rest _ _ c.requires.1 c.requires.2 }

pub returns : goal.returns
unfolding up_first
returns c = rw (ne_eqb _ _ c.if-rest-t.false)
