-- What is left so far is what is left of r doubled as often, and below n.
use Rattle.std.proofs.Common.{◌≡◌, ◌*◌, ◌%◌, ◌^◌, ◌<◌}
use Rattle.remainder.proofs.doubled.Given as goal

abbrev pub invariant-loop-i : goal.invariant-loop-i
invariant-loop-i l = (l.left ≡ (l.r * 2 ^ l._i) % l.n) × (l.left < l.n)
