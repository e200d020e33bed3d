-- What a phase is asked. Clients cite all of it.
use Rattle.std.specs.Prelude.{Bool, true, false}
use Rattle.steps.specs.declared.Phase.{Phase}
use Rattle.steps.specs.declared.Phase.TheVariants.{Dc, Transient, Ended}

abbrev pub is_dc : Phase → Bool
is_dc Dc = true
is_dc Transient = false
is_dc Ended = false

abbrev pub is_transient : Phase → Bool
is_transient Dc = false
is_transient Transient = true
is_transient Ended = false

abbrev pub is_live : Phase → Bool
is_live Dc = true
is_live Transient = true
is_live Ended = false
