-- Which diode is behind. Clients cite caught_up_of, behind_at, first_behind, number_of and behind_number.
use Rattle.std.specs.Prelude.{ℕ, zero, suc, ◌+◌, Bool, false, cond, not, List, get_or, Float, Option, None, Some}
use Rattle.std.specs.Float.Ieee as Ieee
use Rattle.std.specs.Float.{nan, binary64}
use Rattle.numbers.specs.Kinds.{diode}
use Rattle.num.specs.Floats.{absolute_of}
use Rattle.options.specs.declared.Options.{Options}
use Rattle.sheet.specs.declared.Element.{Element}
use Rattle.sheet.specs.declared.Element.TheVariants.{R, I, «V», D, Isin, Vsin, Vpwl, C, Vcvs, Vccs, L}
use Rattle.sheet.specs.Check.{records_of}
use Rattle.groups.specs.Records.{record_in, on_record, across}

-- the voltage v across a diode is within |v| RELTOL + VNTOL of the last limited one, y. It is asked by "at most", so that no NaN has caught up.
-- It is the convergence check's own limit for a node.
unfoldable pub caught_up_of : Float → Float → Float → Float → Bool
caught_up_of reltol vntol v y = Ieee.le (absolute_of (Ieee.sub binary64 v y)) (Ieee.add binary64 (Ieee.mul binary64 (absolute_of v) reltol) vntol)

-- an element is a diode that is behind at the vector x, last limited to y
unfoldable pub diode_behind : Float → Float → List Float → Float → Element → Bool
diode_behind reltol vntol x y (D p q isat tdegc) = not (caught_up_of reltol vntol (across x p.0 q.0) y)
diode_behind reltol vntol x y (R a b v) = false
diode_behind reltol vntol x y (I p q v) = false
diode_behind reltol vntol x y («V» p q v s) = false
diode_behind reltol vntol x y (Isin p q v w z) = false
diode_behind reltol vntol x y (Vsin p q v w z s) = false
diode_behind reltol vntol x y (Vpwl p q v w f k s) = false
diode_behind reltol vntol x y (C a b v) = false
diode_behind reltol vntol x y (Vcvs p q cp cq k s) = false
diode_behind reltol vntol x y (Vccs p q cp cq k) = false
diode_behind reltol vntol x y (L a b v s) = false

-- record i is one; its last limited voltage is the memory's float i
unfoldable pub behind_at : Float → Float → List ℕ → List Float → List Float → ℕ → Bool
behind_at reltol vntol sheet x memory i = on_record (diode_behind reltol vntol x (get_or memory i nan)) false (record_in diode diode sheet i)

-- the first of n records from i on for which a test holds
unfoldable pub first_from : (ℕ → Bool) → ℕ → ℕ → Option ℕ
first_from test zero i = None
first_from test (suc n) i = cond (test i) (Some i) (first_from test n (i + 1))

-- the first record of a sheet whose diode is behind, at these two tolerances and at the options' own
unfoldable pub first_in : Float → Float → List ℕ → List Float → List Float → Option ℕ
first_in reltol vntol sheet x memory = first_from (behind_at reltol vntol sheet x memory) (records_of sheet) 0

abbrev pub first_behind : Options → List ℕ → List Float → List Float → Option ℕ
first_behind o sheet x memory = first_in o.reltol o.vntol sheet x memory

-- the number of an answer: 0 for none, else 1 and the record's place
abbrev pub number_of : Option ℕ → ℕ
number_of None = 0
number_of (Some i) = i + 1

unfoldable pub behind_number : Options → List ℕ → List Float → List Float → ℕ
behind_number o sheet x memory = number_of (first_behind o sheet x memory)
