-- The number that ends the stamping is the one that the model's answer has: 22 where a diode has no model, 26 where a sine is refused, else 0. Clients cite companion_number and level_number. Assumes nothing.
use Rattle.std.specs.Prelude.{ℕ, ◌≡◌, refl, List, Option, Some, None, Float}
use Rattle.stamps.specs.Write.{Write}
use Rattle.models.specs.declared.diode.Model.{Model}
use Rattle.models.specs.Diode as diode
use Rattle.models.specs.Sine as sine
use Rattle.groups.specs.Diodes.{companion}
use Rattle.groups.specs.Sources.{levelled}

pub companion_number : (n i a b : ℕ) (l : Option Model) (m y : List Float) (last : Float) → (companion n i a b l m y).code ≡ (diode.numbers_of last l).verdict
companion_number n i a b (Some l) m y last = refl
companion_number n i a b None m y last = refl

pub level_number : (n : ℕ) (f : Float → List Write) (l : Option Float) (m : List Float) → (levelled n f l m).code ≡ (sine.numbers_of l).verdict
level_number n f (Some x) m = refl
level_number n f None m = refl
