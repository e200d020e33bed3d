-- A ramp that starts away from zero, as whole runs (Runs computes them): points (0,3), (1,4) without repeat drive node 1, and a resistor of 1 ohm hangs on it. With the option `pattern_first` off the level
-- is a NaN at time 0 and at time 1, which the last unknown hides: the DC run is settled at 0 V. With it on the run starts at 3 V and stays at 4 V from time 1 on. Any word but 0 is on.
use Rattle.std.specs.Prelude.{ℕ, ◌^◌, ◌≡◌, refl, Bool, true, false, List, [], ◌∷◌, ◌++◌, Float}
use Rattle.std.specs.Float.{binary64}
use Rattle.std.specs.Float.Ieee.{to_bits, neg}
use Rattle.num.specs.Literals.{one, two, three, four, minus_one}
use Rattle.options.specs.Bench.{bench_switched}
use Rattle.numbers.specs.Kinds as kind
use Rattle.num.specs.Floats.{nought}
use Rattle.machine.specs.State.{buffers_of}
use Rattle.engine.specs.Engine as engine
use Rattle.cases.specs.Laws.Cases.{bits, low, resistor, fives, told, Case, case}

abbrev point : Float → Float → List ℕ
point t v = low 8 (to_bits binary64 t) ++ low 8 (to_bits binary64 v)

-- Vpwl from node a to ground, source 0, its pattern the first two points: no delay, repeat -1
abbrev ramp : ℕ → List ℕ
ramp a = kind.vpwl ∷ 0 ∷ low 2 a ++ (low 6 0 ++ (low 2 0 ++ (low 2 0 ++ (low 2 2 ++ (low 8 (to_bits binary64 nought) ++ (low 8 (to_bits binary64 minus_one) ++ low 8 0))))))

abbrev run : Bool → ℕ → engine.Result
run transient word =
    let m = fives 12 in
    engine.run_of (engine.call_of (bench_switched 10 0 word) transient 2 1 (ramp 1 ++ resistor 1 0 one) (point nought three ++ point one four) m (buffers_of m m (fives 3) (fives 2) (fives 16)))

-- verdict, DC verdict, passes and rows; the vector
abbrev dc : ℕ → List ℕ
dc word = let r = run false word in told r.outcome ++ bits r.buffers.vector

-- the same; the rows
abbrev transient : ℕ → List ℕ
transient word = let r = run true word in told r.outcome ++ bits r.buffers.rows

abbrev pub cases : List Case
cases =
    case (dc 0) (0 ∷ 0 ∷ 1 ∷ 0 ∷ bits (nought ∷ nought ∷ nought ∷ []))
    ∷ case (dc 1) (0 ∷ 0 ∷ 2 ∷ 0 ∷ bits (nought ∷ three ∷ neg three ∷ []))
    ∷ case (dc (2 ^ 63)) (0 ∷ 0 ∷ 2 ∷ 0 ∷ bits (nought ∷ three ∷ neg three ∷ []))
    ∷ case (transient 1)
    (0 ∷ 0 ∷ 8 ∷ 4 ∷ bits (nought ∷ nought ∷ three ∷ neg three ∷ one ∷ nought ∷ four ∷ neg four ∷ two ∷ nought ∷ four ∷ neg four ∷ two ∷ nought ∷ four ∷ neg four ∷ []))
    ∷ []
