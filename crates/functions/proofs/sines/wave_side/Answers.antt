-- `functions::sines::wave_side` meets its contract. Assumes nothing.
use Rattle.std.proofs.Common.{◌≡◌, ◌%◌, Bool, true, false, leb, refl, eq-eqb, ne_eqb}
use lib.Ieee.{unlike}
use Rattle.functions.specs.Sin.{wave_side}
use Rattle.functions.proofs.sines.wave_side.Goals as goal

own : (b : Bool) → b ≡ unlike b false
own true = refl
own false = refl

pub returns-then-k-eq0 : goal.returns-then-k-eq0
unfolding wave_side
returns-then-k-eq0 c = rw (eq-eqb (c.args.k % 2) 0 c.if-k-eq0.true)

pub returns-else-k-eq0 : goal.returns-else-k-eq0
unfolding wave_side
returns-else-k-eq0 c = rw (ne_eqb (c.args.k % 2) 0 c.if-k-eq0.false) (own (leb 2 (c.args.k % 4)))
