-- The options that worked cases run with. Clients cite bench and bench_switched.
use Rattle.std.specs.Prelude.{ℕ}
use Rattle.std.specs.Float.{binary64}
use Rattle.std.specs.Float.Ieee.{of_bits}
use Rattle.num.specs.Floats.{nought}
use Rattle.num.specs.Literals.{tenth, half, one, two}
use Rattle.options.specs.declared.Options.{Options}

-- the worked cases' own, ITL1 as given; not the Rust crate's `bench()`, which has the Rust's constants: RELTOL 0.001, VNTOL = ABSTOL = 0.000001; TSTEP = FS = 1, TSTART 0, TSTOP 2, ITL3 0, ITL4 10, RMIN 0.1
-- with each switch as given
abbrev pub bench_switched : ℕ → ℕ → ℕ → Options
bench_switched itl1 catchup pattern_first_at =
    record {
      reltol = of_bits binary64 0x3F50624DD2F1A9FC;
      vntol = of_bits binary64 0x3EB0C6F7A0B5ED8D;
      abstol = of_bits binary64 0x3EB0C6F7A0B5ED8D;
      tstart = nought;
      tstop = two;
      tstep = one;
      fs = one;
      ft = half;
      rmin = tenth;
      rmax = one;
      gmin = nought;
      boltzmann = nought;
      charge = one;
      itl1 = itl1;
      itl3 = 0;
      itl4 = 10;
      budget = 20;
      catchup = catchup;
      pattern_first = pattern_first_at;
    }

-- with every switch off
abbrev pub bench : ℕ → Options
bench itl1 = bench_switched itl1 0 0
