-- What the convergence check answers. Clients cite convergence_of, Numbers, numbers_of and number_of. Definitions only.
use Rattle.std.specs.Prelude.{ℕ, ◌+◌, Bool, cond, List, ltb, get_or, length, Float}
use Rattle.std.specs.Float.Ieee as Ieee
use Rattle.std.specs.Float.{nan, binary64}
use Rattle.std.specs.Float.Ieee.Scale.{finite}
use Rattle.numbers.specs.Refusals.{by_room}
use Rattle.num.specs.Floats.{absolute_of}
use Rattle.loops.specs.Loop.{turns}
use Rattle.options.specs.declared.Options.{Options}
use Rattle.convergence.specs.declared.Convergence.{Convergence}
use Rattle.convergence.specs.declared.Convergence.TheVariants.{Yes, No, Error, Refused}

-- the numbers of an answer: the refusal, 0 if none, and the state: 0 yes, 1 no, 2 error, 0 if refused
pub record Numbers : Type 0 where
  pub refusal : ℕ
  pub state : ℕ

abbrev pub numbers_of : Convergence → Numbers
numbers_of Yes = record { refusal = 0; state = 0 }
numbers_of No = record { refusal = 0; state = 1 }
numbers_of Error = record { refusal = 0; state = 2 }
numbers_of Refused = record { refusal = by_room; state = 0 }

-- as one number, of which no two answers have the same: 0 yes, 1 no, 2 error, 5 refused
abbrev pub number_of : Convergence → ℕ
number_of c = (numbers_of c).refusal + (numbers_of c).state

-- |x| RELTOL + VNTOL (nodes) or ABSTOL (sources)
unfoldable pub limit : Float → Bool → Options → Float
limit x node o =
    let t = Ieee.mul binary64 (absolute_of x) o.reltol in
    cond node (Ieee.add binary64 t o.vntol) (Ieee.add binary64 t o.abstol)

-- one place: x not finite sets "error"; otherwise a difference above the limit sets "no", also over an earlier error; a NaN in y never exceeds
unfoldable pub place : Float → Float → Bool → Options → Convergence → Convergence
place x y node o r = cond (finite x) (cond (Ieee.lt (limit x node o) (absolute_of (Ieee.sub binary64 x y))) No r) Error

abbrev pub place_at : List Float → List Float → ℕ → Options → ℕ → Convergence → Convergence
place_at x y nodes o i r = place (get_or x i nan) (get_or y i nan) (ltb i nodes) o r

-- every place in turn; start: "yes"
unfoldable pub checked : List Float → List Float → ℕ → Options → Convergence
checked x y nodes o = turns (length x) (place_at x y nodes o) Yes

-- refused with 5 when y is shorter than x
unfoldable pub convergence_of : List Float → List Float → ℕ → Options → Convergence
convergence_of x y nodes o = cond (ltb (length y) (length x)) Refused (checked x y nodes o)
