-- What a run carries from pass to pass, and what stamping and solving give it. Clients cite all of it.
use Rattle.std.specs.Prelude.{ℕ, List, Float}
use Rattle.steps.specs.declared.Counters.{Counters}
use Rattle.steps.specs.declared.Report.{Report}

-- the buffers that a caller lends to a run, and in which its results stand. The elimination matrix is not among them: it is scratch.
pub record Buffers : Type 0 where
  -- what every pass is stamped over; no pass changes it
  pub base : List Float
  -- the last system stamped whole, before elimination
  pub system : List Float
  -- the last solved vector
  pub vector : List Float
  -- each diode's last limited voltage, and each inductor's last accepted current
  pub memory : List Float
  pub rows : List Float

abbrev pub buffers_of : List Float → List Float → List Float → List Float → List Float → Buffers
buffers_of b s v m r = record { base = b; system = s; vector = v; memory = m; rows = r }

pub record State : Type 0 where
  pub counters : Counters
  -- the last accepted vector, at which capacitors look
  pub accepted : List Float
  pub buffers : Buffers

abbrev pub state_of : Counters → List Float → Buffers → State
state_of c a x = record { counters = c; accepted = a; buffers = x }

-- stamping and solving: fault 0 if all was stamped and solved; 22 for a diode, else a sine was refused
pub record Solved : Type 0 where
  pub fault : ℕ
  pub system : List Float
  pub vector : List Float
  pub memory : List Float

-- the same, and what the machine asks of it besides
pub record Attempted : Type 0 where
  pub fault : ℕ
  pub system : List Float
  pub vector : List Float
  pub memory : List Float
  -- the first diode that is then behind: 0 for none, else 1 and its record's place
  pub behind : ℕ
  -- the memory if this vector is taken: each inductor has then taken its new current
  pub taken : List Float

-- of stamping and solving the machine knows no more than this: what it makes of the counters, the accepted vector and the buffers
abbrev pub Attempt : Type 0
Attempt = Counters → List Float → Buffers → Attempted

-- an attempt with the report on it
pub record Tried : Type 0 where
  pub report : Report
  pub system : List Float
  pub vector : List Float
  pub memory : List Float

abbrev pub tried_of : Report → List Float → List Float → List Float → Tried
tried_of r s v m = record { report = r; system = s; vector = v; memory = m }

-- the rows, and the counters with them
pub record Written : Type 0 where
  pub counters : Counters
  pub rows : List Float

abbrev pub written_of : Counters → List Float → Written
written_of c r = record { counters = c; rows = r }
