-- Systems worked out by computing the definitions: the base of case b, a source between equal nodes, and an inductor at DC and in a step. Assumes nothing.
use Rattle.std.specs.Prelude.{◌≡◌, refl, [], ◌∷◌, ◌++◌, replicate, Float}
use Rattle.std.specs.Float.Ieee as Ieee
use Rattle.std.specs.Float.{binary64}
use Rattle.std.specs.Float.Ieee.{of_bits}
use Rattle.stamps.specs.Write.{written, stamped}
use Rattle.num.specs.Literals.{one, two, four}
use Rattle.stamps.specs.Kinds.{neg_one, current_writes, conductance_writes, resistor_writes, voltage_writes, inductor_writes, short_writes}

abbrev z : Float
z = of_bits binary64 0

-- b: V 4 at 1, R 1 from 1 to 2, R 1 from 2 to 0
case_b :
    stamped 4 (voltage_writes 4 3 1 0 four ++ (resistor_writes 1 2 one ++ resistor_writes 2 0 one)) (replicate 20 z)
    ≡ z ∷ z ∷ z ∷ z ∷ z
    ∷ z ∷ one ∷ neg_one ∷ one ∷ z
    ∷ z ∷ neg_one ∷ two ∷ z ∷ z
    ∷ z ∷ one ∷ z ∷ z ∷ four
    ∷ []
unfolding stamped written voltage_writes conductance_writes Ieee.of_bits Ieee.of_fields Ieee.odd Ieee.neg Ieee.add Ieee.div Ieee.sum Ieee.round Ieee.units Ieee.size Ieee.span Ieee.climb
case_b = refl

-- "Equal nodes leave -1.0"
equal_nodes :
    stamped 3 (voltage_writes 3 2 1 1 four) (replicate 12 z)
    ≡ z ∷ z ∷ z ∷ z
    ∷ z ∷ z ∷ neg_one ∷ z
    ∷ z ∷ neg_one ∷ z ∷ four
    ∷ []
unfolding stamped written voltage_writes
equal_nodes = refl

abbrev forty_nine : Float
forty_nine = of_bits binary64 0x4048_8000_0000_0000

-- an inductor from 1 to 2 with row 3 at DC: a short, so that both nodes have one voltage and its current is the unknown of its row
inductor_at_dc :
    stamped 4 (short_writes 4 3 1 2) (replicate 20 z)
    ≡ z ∷ z ∷ z ∷ z ∷ z
    ∷ z ∷ z ∷ z ∷ one ∷ z
    ∷ z ∷ z ∷ z ∷ neg_one ∷ z
    ∷ z ∷ one ∷ neg_one ∷ z ∷ z
    ∷ []
unfolding stamped written voltage_writes
inductor_at_dc = refl

-- the same in a step, with the conductance 49, which inverted twice would be another, and a current of 4: row and column 3 hold only a 1.0 on the diagonal
inductor_in_step :
    stamped 4 (inductor_writes 4 3 1 2 forty_nine four) (replicate 20 z)
    ≡ z ∷ z ∷ z ∷ z ∷ z
    ∷ z ∷ forty_nine ∷ Ieee.neg forty_nine ∷ z ∷ Ieee.neg four
    ∷ z ∷ Ieee.neg forty_nine ∷ forty_nine ∷ z ∷ four
    ∷ z ∷ z ∷ z ∷ one ∷ z
    ∷ []
unfolding stamped written inductor_writes conductance_writes current_writes Ieee.of_bits Ieee.of_fields Ieee.odd Ieee.neg Ieee.add Ieee.sum Ieee.round Ieee.units Ieee.size Ieee.span Ieee.climb
inductor_in_step = refl
