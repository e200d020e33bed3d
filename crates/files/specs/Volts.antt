-- The two voltages that are told of a diode that is behind, read as its definition reads them. Clients cite across_in, across_at and volts_of.
use Rattle.std.specs.Prelude.{ℕ, List, from_bits, slice_index_or, Float}
use Rattle.std.specs.Float.{nan, binary64}
use Rattle.numbers.specs.Kinds.{diode}
use Rattle.sheet.specs.declared.Element.{Element}
use Rattle.sheet.specs.declared.Element.TheVariants.{R, I, «V», D, Isin, Vsin, Vpwl, C, Vcvs, Vccs, L}
use Rattle.groups.specs.Records.{record_in, on_record, across}
use Rattle.say.specs.declared.job.Volts.{Volts}

-- the voltage across a diode in the vector x, and 0 for every other element
abbrev pub across_in : List Float → Element → Float
across_in x (D p q isat tdegc) = across x p.0 q.0
across_in x (R a b v) = from_bits binary64 0
across_in x (I p q v) = from_bits binary64 0
across_in x («V» p q v s) = from_bits binary64 0
across_in x (Isin p q v w z) = from_bits binary64 0
across_in x (Vsin p q v w z s) = from_bits binary64 0
across_in x (Vpwl p q v w f k s) = from_bits binary64 0
across_in x (C a b v) = from_bits binary64 0
across_in x (Vcvs p q cp cq k s) = from_bits binary64 0
across_in x (Vccs p q cp cq k) = from_bits binary64 0
across_in x (L a b v s) = from_bits binary64 0

-- so of record i
abbrev pub across_at : List ℕ → ℕ → List Float → Float
across_at sheet i x = on_record (across_in x) (from_bits binary64 0) (record_in diode diode sheet i)

-- and the voltage that it was last limited to, which is the memory's float i
abbrev pub volts_of : List ℕ → ℕ → List Float → List Float → Volts
volts_of sheet i x memory = record { across = across_at sheet i x; limited = slice_index_or memory i nan }
