-- The records of a sheet as a group of stamps sees them. Clients cite element_at, told, unless, record_in, on_record, writes_of and across.
use Rattle.std.specs.Prelude.{ℕ, zero, suc, Bool, cond, ◌||◌, List, [], ◌++◌, ltb, get_or, Option, None, Some, Result, Float}
use Rattle.std.specs.Float.Ieee as Ieee
use Rattle.std.specs.Float.{nan, binary64}
use Rattle.numbers.specs.declared.refusal.Refusal.{Refusal}
use Rattle.sheet.specs.declared.Element.{Element}
use Rattle.std.specs.declared.result.Result.TheVariants.{Ok, Err}
use Rattle.sheet.specs.Record.{Decoded, record_at, kind_at, decode_of}
use Rattle.stamps.specs.Write.{Write}

-- what record i decodes to
abbrev pub element_at : List ℕ → ℕ → Decoded
element_at sheet i = decode_of (record_at sheet i)

-- a kind that is not among those from low to high
abbrev pub outside : ℕ → ℕ → ℕ → Bool
outside low high kind = ltb kind low || ltb high kind

-- what a record decodes to, where one may also be passed by: that is an error without a refusal
abbrev pub told : Decoded → Result Element (Option Refusal)
told (Ok e) = Ok e
told (Err r) = Err (Some r)

-- record i, passed by where a test holds of its kind
abbrev pub unless : (ℕ → Bool) → List ℕ → ℕ → Result Element (Option Refusal)
unless skip sheet i = cond (skip (kind_at sheet i)) (Err None) (told (element_at sheet i))

-- record i, passed by where its kind is outside
unfoldable pub record_in : ℕ → ℕ → List ℕ → ℕ → Result Element (Option Refusal)
record_in low high sheet i = unless (outside low high) sheet i

-- what a group makes of a record's element; x where it has none, whatever error says so
abbrev pub on_record : {X E : Type 0} → (Element → X) → X → Result Element E → X
on_record f x (Ok e) = f e
on_record f x (Err k) = x

-- what the first k records write, in list order; f is told each record's number
unfoldable pub writes_of : (ℕ → Element → List Write) → List ℕ → ℕ → List Write
writes_of f sheet zero = []
writes_of f sheet (suc k) = writes_of f sheet k ++ on_record (f k) [] (element_at sheet k)

-- the voltage of node a above node b in a vector; past the vector's end there is no number
abbrev pub across : List Float → ℕ → ℕ → Float
across x a b = Ieee.sub binary64 (get_or x a nan) (get_or x b nan)
