-- What the loop of `mean::leading::top` keeps true: limbs from h up are 0.
use Rattle.std.proofs.Common.{◌≡◌, ◌≤◌, drop}
use Rattle.exact.specs.Limbs.{value}
use Rattle.mean.proofs.leading.top.Given as goal

abbrev pub invariant-loop-h : goal.invariant-loop-h
invariant-loop-h l = (18 ≤ l.h) × (l.h ≤ 66) × (value (drop l.h l.l) ≡ 0)
