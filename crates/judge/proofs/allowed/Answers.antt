-- `judge::allowed` meets its contract.
use mathlib.Core.Path.{◌≡◌, sym, ap, ◌∙◌}
use mathlib.Core.Bool.{Bool, true, false, not, ◌&&◌, and-true, and-false}
use lib.Ieee.{Float, lt}
use lib.Ieee.Scale.{finite}
use Rattle.num.specs.Floats.{nought}
use Rattle.judge.specs.Judge.{allowed}
use Rattle.judge.proofs.allowed.Goals as goal
use Rattle.judge.proofs.allowed.Goals.{then-tolerance+else-x, else-tolerance}

below : (x : Float) (b : Bool) → b ≡ true → lt x nought ≡ true → false ≡ allowed b x
below x b e f = rw e (sym (ap (λ (c : Bool). finite x && not c) f ∙ and-false (finite x)))

not-below : (x : Float) (b : Bool) → b ≡ true → lt x nought ≡ false → finite x ≡ allowed b x
not-below x b e f = rw e (sym (ap (λ (c : Bool). finite x && not c) f ∙ and-true (finite x)))

plain : (x : Float) (b : Bool) → b ≡ false → finite x ≡ allowed b x
plain x b e = rw e

pub returns-then-x : goal.returns-then-x
returns-then-x c = below c.args.x c.args.tolerance c.if-tolerance.true c.if-x.true

pub returns : goal.returns
returns c =
    let x = c.args.x in
    let b = c.args.tolerance in
    elim c.if-tolerance.branch [
      | then-tolerance+else-x w ↦ c.finite.ensures ∙ not-below x b w.if-tolerance.true w.if-x.false
      | else-tolerance w ↦ c.finite.ensures ∙ plain x b w.if-tolerance.false
    ]
