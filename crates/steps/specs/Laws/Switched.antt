-- The same options with the switch `catchup` at another place. Clients cite with_catchup. Assumes nothing.
use Rattle.std.specs.Prelude.{ℕ}
use Rattle.options.specs.declared.Options.{Options}

abbrev pub with_catchup : ℕ → Options → Options
with_catchup w o =
    record {
      reltol = o.reltol;
      vntol = o.vntol;
      abstol = o.abstol;
      tstart = o.tstart;
      tstop = o.tstop;
      tstep = o.tstep;
      fs = o.fs;
      ft = o.ft;
      rmin = o.rmin;
      rmax = o.rmax;
      gmin = o.gmin;
      boltzmann = o.boltzmann;
      charge = o.charge;
      itl1 = o.itl1;
      itl3 = o.itl3;
      itl4 = o.itl4;
      budget = o.budget;
      catchup = w;
      pattern_first = o.pattern_first;
    }
