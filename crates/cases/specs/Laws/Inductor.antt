-- Inductors as whole runs, each answer worked out by hand (Runs computes them). The buffers are lent full of fives, so that an inductor's 5 is forgotten and every other record's 5 stays.
use Rattle.std.specs.Prelude.{ℕ, ◌+◌, ◌*◌, ◌/◌, Bool, true, false, List, [], ◌∷◌, ◌++◌, length, Float}
use Rattle.std.specs.Float.{binary64}
use Rattle.std.specs.Float.Ieee.{of_bits, to_bits, neg}
use Rattle.numbers.specs.Kinds as kind
use Rattle.num.specs.Floats.{nought}
use Rattle.num.specs.Literals.{tenth, half, one, two, three, four, five, minus_one, minus_zero}
use Rattle.options.specs.declared.Options.{Options}
use Rattle.sheet.specs.Record as bytes
use Rattle.machine.specs.State.{buffers_of}
use Rattle.engine.specs.Engine as engine
use Rattle.cases.specs.Laws.Cases.{bits, low, record_of, resistor, current, fives, told, Case, case}

abbrev quarter : Float
quarter = of_bits binary64 0x3fd0_0000_0000_0000

abbrev eight : Float
eight = of_bits binary64 0x4020_0000_0000_0000

abbrev twelve : Float
twelve = of_bits binary64 0x4028_0000_0000_0000

abbrev fourteen : Float
fourteen = of_bits binary64 0x402c_0000_0000_0000

abbrev hundred : Float
hundred = of_bits binary64 0x4059_0000_0000_0000

abbrev loose : Float
loose = of_bits binary64 0x3fec_cccc_cccc_cccd

abbrev usual : Float
usual = of_bits binary64 0x3f50_624d_d2f1_a9fc

-- TSTEP = FS = 1, FT 0.5, RMIN 0.1, RMAX 5; the rest as given
abbrev with : Float → Float → ℕ → ℕ → ℕ → ℕ → Options
with reltol tstop itl1 itl3 itl4 budget =
    record {
      reltol = reltol;
      vntol = of_bits binary64 0x3EB0C6F7A0B5ED8D;
      abstol = of_bits binary64 0x3EB0C6F7A0B5ED8D;
      tstart = nought;
      tstop = tstop;
      tstep = one;
      fs = one;
      ft = half;
      rmin = tenth;
      rmax = five;
      gmin = nought;
      boltzmann = nought;
      charge = one;
      itl1 = itl1;
      itl3 = itl3;
      itl4 = itl4;
      budget = budget;
      catchup = 0;
      pattern_first = 0;
    }

abbrev inductor : ℕ → ℕ → Float → ℕ → List ℕ
inductor a b x s = record_of kind.inductor a b s x

-- Vpwl from node 1 to ground, source 1, its pattern the first three points: no delay, repeat -1
abbrev pattern : List ℕ
pattern = kind.vpwl ∷ 0 ∷ low 2 1 ++ (low 6 0 ++ (low 2 1 ++ (low 2 0 ++ (low 2 3 ++ (low 8 (to_bits binary64 nought) ++ (low 8 (to_bits binary64 minus_one) ++ low 8 0))))))

abbrev point : Float → Float → List ℕ
point t v = low 8 (to_bits binary64 t) ++ low 8 (to_bits binary64 v)

-- verdict, DC verdict, passes and rows; the vector, the memory and the rows
abbrev run : Options → Bool → ℕ → ℕ → List ℕ → List ℕ → List ℕ
run o transient nodes srcs s points =
    let n = nodes + srcs in
    let m = fives (n * (n + 1)) in
    let r = engine.run_of (engine.call_of o transient nodes srcs s points m (buffers_of m m (fives n) (fives (length s / bytes.record_bytes)) (fives (4 * (n + 1))))) in
    told r.outcome ++ (bits r.buffers.vector ++ (bits r.buffers.memory ++ bits r.buffers.rows))

-- a level that rises to 8 V, half an ohm, and an inductor to ground; the source has the last number, so that the rule of the last unknown cannot hide the inductor
abbrev rising : Options → Float → Float → List ℕ
rising o henries rise = run o true 3 2 (pattern ++ (resistor 1 2 half ++ inductor 2 0 henries 0)) (point nought nought ++ (point rise eight ++ point hundred eight))

abbrev parallel : Float → Float → List ℕ
parallel ohms henries = current 0 1 one ++ (resistor 1 0 ohms ++ inductor 1 0 henries 0)

abbrev pub cases : List Case
cases =
    -- an ampere into an ohm and a henry in parallel: at DC the inductor has it all, and it stays so; its unknown is 0.0 in every row but the first
    case (run (with usual two 10 0 10 20) true 2 1 (parallel one one) [])
    (0 ∷ 0 ∷ 5 ∷ 4 ∷ bits (nought ∷ nought ∷ nought ∷ five ∷ five ∷ one ∷ nought ∷ nought ∷ nought ∷ one ∷ one ∷ nought ∷ nought ∷ nought ∷ two ∷ nought ∷ nought ∷ nought ∷ two ∷ nought ∷ nought ∷ nought ∷ []))
    -- the same with other parts, as DC calls: ITL1 = 0 ends with 20, and the current is DC's all the same; a budget of 1 ends with 24, and it is still 0.0
    ∷ case (run (with usual two 0 0 10 20) false 2 1 (parallel five three) []) (20 ∷ 20 ∷ 1 ∷ 0 ∷ bits (nought ∷ nought ∷ one ∷ five ∷ five ∷ one ∷ fives 16))
    ∷ case (run (with usual two 10 0 10 1) false 2 1 (parallel five three) []) (24 ∷ 24 ∷ 1 ∷ 0 ∷ bits (nought ∷ nought ∷ one ∷ five ∷ five ∷ nought ∷ fives 16))
    -- three steps: 8, 12, 14 A
    ∷ case (rising (with usual two 10 0 10 20) half one)
    (0 ∷ 0 ∷ 7 ∷ 4 ∷ bits (nought ∷ eight ∷ one ∷ nought ∷ neg fourteen ∷ five ∷ five ∷ fourteen
    ∷ nought ∷ nought ∷ nought ∷ nought ∷ nought ∷ minus_zero
    ∷ one ∷ nought ∷ eight ∷ four ∷ nought ∷ neg eight
    ∷ two ∷ nought ∷ eight ∷ two ∷ nought ∷ neg twelve
    ∷ two ∷ nought ∷ eight ∷ one ∷ nought ∷ neg fourteen ∷ []))
    -- the step is doubled after the first: the current is by the step that was accepted
    ∷ case (rising (with usual one 10 5 10 20) half one)
    (0 ∷ 0 ∷ 3 ∷ 2 ∷ bits (nought ∷ eight ∷ four ∷ nought ∷ neg eight ∷ five ∷ five ∷ eight
    ∷ nought ∷ nought ∷ nought ∷ nought ∷ nought ∷ minus_zero
    ∷ one ∷ nought ∷ eight ∷ four ∷ nought ∷ neg eight ∷ fives 12))
    -- the first pass of the step of 1 says no and the step is cut: the current is by the step of 0.5
    ∷ case (rising (with loose quarter 10 0 1 20) quarter quarter)
    (0 ∷ 0 ∷ 3 ∷ 2 ∷ bits (nought ∷ eight ∷ four ∷ nought ∷ neg eight ∷ five ∷ five ∷ eight
    ∷ nought ∷ nought ∷ nought ∷ nought ∷ nought ∷ minus_zero
    ∷ quarter ∷ nought ∷ eight ∷ four ∷ nought ∷ neg eight ∷ fives 12))
    -- equal nodes: DC ties the node to ground, a step does not
    ∷ case (run (with usual two 10 0 10 20) true 2 1 (current 0 1 one ++ (resistor 1 0 one ++ inductor 1 1 one 0)) [])
    (0 ∷ 0 ∷ 8 ∷ 4 ∷ bits (nought ∷ one ∷ nought ∷ five ∷ five ∷ minus_one
    ∷ nought ∷ nought ∷ nought ∷ minus_one ∷ one ∷ nought ∷ one ∷ nought ∷ two ∷ nought ∷ one ∷ nought ∷ two ∷ nought ∷ one ∷ nought ∷ []))
    ∷ []
