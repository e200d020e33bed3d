-- The bench's cases f as one statement: answers, and a refusal.
use Rattle.std.specs.Prelude.{◌≡◌, refl, List, [], ◌∷◌, map, Float}
use Rattle.std.specs.Float.Ieee as Ieee
use Rattle.std.specs.Float.{nan}
use Rattle.num.specs.Floats.{nought, absolute_of}
use Rattle.num.specs.Literals.{one, five}
use Rattle.options.specs.Bench.{bench}
use Rattle.convergence.specs.declared.Convergence.{Convergence}
use Rattle.convergence.specs.declared.Convergence.TheVariants.{Yes, No, Error, Refused}
use Rattle.convergence.specs.Convergence.{limit, place, checked, convergence_of}

record Case : Type 0 where
  x : List Float
  y : List Float
  answer : Convergence

abbrev case : List Float → List Float → Convergence → Case
case x y a = record { x = x; y = y; answer = a }

-- NaN, 5 against 0, 0: no. 5, NaN: error. 0, 1 against 0, NaN: yes. A y that is shorter: refused.
abbrev cases : List Case
cases =
    case (nan ∷ five ∷ []) (nought ∷ nought ∷ []) No
    ∷ case (five ∷ nan ∷ []) (nought ∷ nought ∷ []) Error
    ∷ case (nought ∷ one ∷ []) (nought ∷ nan ∷ []) Yes
    ∷ case (nought ∷ one ∷ []) (nought ∷ []) Refused
    ∷ []

answers : map (λ (c : Case). convergence_of c.x c.y 2 (bench 10)) cases ≡ map (λ (c : Case). c.answer) cases
unfolding convergence_of checked place limit absolute_of Ieee.of_bits Ieee.add Ieee.sub Ieee.mul Ieee.lt
answers = refl
